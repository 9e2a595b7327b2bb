pub mod Passes
pub mod Sent
