pub mod Best
pub mod Stepping
