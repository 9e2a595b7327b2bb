pub mod Places
pub mod Marks
pub mod Elements
pub mod Handed
pub mod Rows
pub mod Frame
pub mod Labels
