pub mod Faults
pub mod Proposed
