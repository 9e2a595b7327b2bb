pub mod Quorums
pub mod Moves
pub mod Keeps
pub mod Opens
