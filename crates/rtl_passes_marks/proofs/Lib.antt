pub mod Fed
pub mod Feeders
pub mod Short
pub mod Handings
pub mod Numbers
pub mod Sound
pub use Rattle.rtl_passes.proofs.Verdicts
