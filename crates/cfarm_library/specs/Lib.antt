pub mod Flags
pub mod Put
