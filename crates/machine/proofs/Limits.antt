-- What stands in `locations` and is cited above.
pub use Rattle.locations.proofs.Limits.{global_form}
