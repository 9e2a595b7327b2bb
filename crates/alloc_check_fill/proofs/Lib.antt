pub mod Members
pub mod Pairs
pub mod Carried
pub mod Blocks
pub mod Fixed
pub mod Places
pub mod Sames
pub mod Steps
