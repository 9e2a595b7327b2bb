pub mod Short
pub mod Outputs
