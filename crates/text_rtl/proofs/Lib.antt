pub mod Parts
pub mod Programs
pub mod Read
