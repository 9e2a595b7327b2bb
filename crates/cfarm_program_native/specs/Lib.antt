pub mod Chosen
pub mod Nativing
