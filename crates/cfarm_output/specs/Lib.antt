pub mod Begun
pub mod Errors
pub mod Lines
