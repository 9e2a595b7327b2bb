pub mod Turned
pub mod Moved
