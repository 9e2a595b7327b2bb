pub mod Pointwise
pub mod Short
pub use Rattle.cminor_codec.proofs.Rows
