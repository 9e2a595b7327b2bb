pub mod Parameters
pub mod Reading
