pub mod Narrow
pub mod InWords
