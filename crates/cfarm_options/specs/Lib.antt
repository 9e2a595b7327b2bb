pub mod Names
pub mod Paths
pub mod Quorums
pub mod Sizes
pub mod Lines
pub mod Holding
