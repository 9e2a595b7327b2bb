pub mod Keys
pub mod Lines
pub mod Names
pub mod Numbered
pub mod Words
