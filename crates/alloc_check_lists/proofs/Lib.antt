pub mod Each
pub mod Ranks
pub mod Searches
