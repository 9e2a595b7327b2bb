pub mod Between
pub mod Compared
pub mod Ends
