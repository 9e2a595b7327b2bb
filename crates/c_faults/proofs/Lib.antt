pub mod Gaps
pub mod Changes
pub mod Faults
pub mod Holding
