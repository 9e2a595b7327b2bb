pub mod Streams
pub mod Steps
pub mod Places
pub mod Beginning
