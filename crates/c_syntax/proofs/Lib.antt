pub use Rattle.lang_base.proofs.Parts
