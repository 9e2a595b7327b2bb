pub mod Acts
pub mod Shown
