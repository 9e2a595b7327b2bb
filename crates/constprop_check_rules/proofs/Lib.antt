pub mod Behind
pub mod Counts
pub mod Holding
pub mod Sound
