pub mod Either
pub mod Crash
