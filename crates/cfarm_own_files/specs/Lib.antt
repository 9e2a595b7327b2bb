pub mod Own
pub mod Barred
pub mod Kept
