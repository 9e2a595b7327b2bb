pub mod Blocks
pub mod OneBundle
pub mod Paired
pub mod Places
pub mod Readings
