pub mod Naming
pub mod Commas
pub mod Telling
pub mod Ends
pub mod Sound
