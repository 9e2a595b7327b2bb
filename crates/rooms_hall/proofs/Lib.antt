pub mod Keeps
pub mod Claims
