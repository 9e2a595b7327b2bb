pub mod Parameters
pub mod Meant
pub mod Sources
