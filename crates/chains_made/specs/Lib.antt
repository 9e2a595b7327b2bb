pub mod Baselines
pub mod Compiled
pub mod Counted
pub mod Refused
