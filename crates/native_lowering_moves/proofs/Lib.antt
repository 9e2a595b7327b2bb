pub mod Constants
pub mod Moves
pub mod Jumps
pub mod Asking
pub mod Branches
