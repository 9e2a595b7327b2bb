pub mod Functions
pub mod Programs
pub mod Acts
