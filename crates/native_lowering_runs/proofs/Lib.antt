pub mod Lists
pub mod Registers
pub mod Saved
pub mod Places
pub mod Blocks
pub mod Held
pub mod Below
