-- What stands in `machine` and is cited above.
pub use Rattle.machine.proofs.Outputs.{output-put_at, output-all_moved}
