pub mod Built
pub mod Carried
pub mod Refused
