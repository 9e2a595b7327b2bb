pub mod Lent
pub mod Waiting
pub mod Stops
pub mod Steps
pub mod Fits
pub mod Runs
pub mod Functions
pub mod Prepared
