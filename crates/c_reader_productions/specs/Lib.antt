pub mod Combining
pub mod Deeds
pub mod Parts
