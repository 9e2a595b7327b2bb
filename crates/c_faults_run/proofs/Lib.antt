pub mod Listed
pub mod Doing
