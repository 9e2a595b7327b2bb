pub mod Aims
pub mod Causing
pub mod Finding
