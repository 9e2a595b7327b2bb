pub mod Forms
pub mod Chains
