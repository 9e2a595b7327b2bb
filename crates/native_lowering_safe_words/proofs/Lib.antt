pub mod Knowing
pub mod Moves
pub mod Blocks
pub mod Functions
pub mod Words
pub mod Steps
