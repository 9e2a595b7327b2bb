-- What stands in `rtl_passes` and is cited above.
pub use Rattle.rtl_passes.proofs.Sound.{stepwise_keeps}
