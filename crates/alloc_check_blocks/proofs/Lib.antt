pub mod Moves
pub mod Sources
pub mod Locations
