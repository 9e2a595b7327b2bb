pub mod Past
pub mod Held
