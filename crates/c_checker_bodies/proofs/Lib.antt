pub mod Blocks
pub mod Grouping
pub mod Heights
pub mod Leaving
pub mod Turns
