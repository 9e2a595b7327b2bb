pub mod Registers
pub mod Labels
pub mod Fits
