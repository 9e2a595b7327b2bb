pub mod Terms
pub mod Sequences
pub mod Actions
pub mod Programs
pub mod Held
