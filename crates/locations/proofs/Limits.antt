-- What stands in `lang_helpers` and is cited above.
pub use Rattle.lang_helpers.proofs.Limits.{global_form}
