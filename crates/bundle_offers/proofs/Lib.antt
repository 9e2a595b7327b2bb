pub mod Compared
pub mod Standings
