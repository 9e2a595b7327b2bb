pub mod Functions
pub mod Globals
pub mod NameBytes
pub mod Programs
pub mod Read
