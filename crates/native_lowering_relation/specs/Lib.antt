pub mod Agreeing
pub mod Standing
pub mod Knowing
pub mod Waiting
pub mod Related
