pub mod Own
pub mod Waiting
pub mod Soundness
mod Telling
mod OverPair
