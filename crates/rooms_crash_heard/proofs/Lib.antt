pub mod Hearing
pub mod Neighbours
