pub mod Given
pub mod Making
pub mod Ordered
pub mod Telling
pub mod Stopping
