pub mod Stepping
pub mod Matching
pub mod Beginning
pub mod Keeping
