pub mod Short
pub use Rattle.rtl_acts.proofs.Equal
