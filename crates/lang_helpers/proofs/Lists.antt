-- What stands in `lang_base` and is cited above.
pub use Rattle.lang_base.proofs.Lists.{counted_form, each_fits, fits_each, HasCode, unknown_takes, follow_form, coded_form, optional_form}
