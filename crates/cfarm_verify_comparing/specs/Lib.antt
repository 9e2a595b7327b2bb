pub mod Compared
pub mod Ranges
