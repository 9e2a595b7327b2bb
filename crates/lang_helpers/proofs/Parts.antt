-- What stands in `lang_base` and is cited above.
pub use Rattle.lang_base.proofs.Parts.{byte_form, number16_form, made_takes, made_again, made_form, tested_form, fits_form, below_form, up_to_form, both_form}
