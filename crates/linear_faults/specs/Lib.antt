pub mod Causes
pub mod Faults
pub mod Holding
