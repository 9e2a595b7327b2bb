pub mod Making
pub mod Outputs
