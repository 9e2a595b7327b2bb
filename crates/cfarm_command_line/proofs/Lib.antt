mod Tasks
pub mod Bounds
