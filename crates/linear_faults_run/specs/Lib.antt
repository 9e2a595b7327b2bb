pub mod Standing
pub mod Doing
pub mod Steps
pub mod Calls
pub mod Returns
