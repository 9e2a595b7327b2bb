pub mod Functions
pub mod Numbers
pub mod Telling
pub mod Refusing
