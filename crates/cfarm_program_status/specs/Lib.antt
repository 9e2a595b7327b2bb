pub mod Trace
pub mod Reading
pub mod Telling
