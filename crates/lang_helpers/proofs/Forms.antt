-- What stands in `lang_base` and is cited above.
pub use Rattle.lang_base.proofs.Forms.{IsForm}
