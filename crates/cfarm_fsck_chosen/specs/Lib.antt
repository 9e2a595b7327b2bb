pub mod Chosen
pub mod Linking
