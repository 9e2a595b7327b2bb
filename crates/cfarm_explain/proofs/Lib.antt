pub mod Calls
pub mod Names
pub mod Telling
pub mod Groups
