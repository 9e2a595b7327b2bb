pub mod Programs
pub mod Read
