pub mod Forms
pub mod Heads
pub mod Fronts
pub mod Listing
pub mod Faults
