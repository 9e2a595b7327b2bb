pub mod Testing
pub mod Loads
pub mod Stores
pub mod Prints
