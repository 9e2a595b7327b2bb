pub mod Constants
pub mod Listed
pub mod Endings
pub mod Entering
pub mod Meanings
pub mod Naming
