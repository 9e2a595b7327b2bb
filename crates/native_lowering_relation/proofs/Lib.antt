pub mod Agreeing
pub mod Standing
pub mod Knowing
pub mod Kept
pub mod Waiting
