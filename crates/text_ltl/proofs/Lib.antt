pub mod Moved
pub mod Programs
pub mod Read
