pub mod Cased
pub mod Words
pub mod Acts
pub mod Kept
