pub mod Invariant
pub mod Kept
