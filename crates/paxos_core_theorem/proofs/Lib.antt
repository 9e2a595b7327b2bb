pub mod Theorem
pub mod Chains
pub mod Reopens
pub mod FarmReopens
