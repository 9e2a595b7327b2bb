pub mod Fuel
pub mod Rows
pub mod Texts
