-- What stands in the crates below and is cited above.
pub use Rattle.native_lowering_runs.specs.Reaching.{Reaches}
pub use Rattle.native_lowering_moves.proofs.Constants.{constant_reaches}
pub use Rattle.native_lowering_operators.proofs.Comparing.{asks_zero_reaches, compares_reaches}
pub use Rattle.native_lowering_operators.proofs.Making.{makes_reaches}
pub use Rattle.native_lowering_operators.proofs.Turning.{turns_reaches}
pub use Rattle.native_lowering_operators.proofs.Written.{written_here}
