pub mod Runs
pub mod Ready
