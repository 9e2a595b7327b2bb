-- What the pass's laws need of the crate below: that what is accepted keeps the meaning, and that a certificate's text is a form.
pub use Rattle.alloc_check_proof.proofs.Sound.{sound}
pub use Rattle.alloc_check_proof.proofs.Forms.{rows_of_equations}
