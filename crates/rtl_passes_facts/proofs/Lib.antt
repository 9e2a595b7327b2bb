pub mod Readings
pub mod Shorts
pub mod Tested
pub mod Walked
pub use Rattle.rtl_passes_filled.proofs.Places
