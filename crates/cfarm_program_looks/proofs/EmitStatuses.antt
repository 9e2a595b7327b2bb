-- Each status of `emit` is at most 7.
use Rattle.std.specs.Prelude.{ℕ, zero, suc, ◌≤◌}
use Rattle.std.proofs.Common.{arith}
use Rattle.farm_nodes_source.specs.Told as source
use Rattle.cfarm_emit.specs.Lines.{status_of, unless_memory}
use Rattle.cfarm_emit.specs.declared.error.EmitError.{EmitError}
use Rattle.cfarm_emit.specs.declared.error.EmitError.TheVariants as emit

unless : (n : ℕ) → unless_memory n 1 ≤ 7
unless zero = omega arith
unless (suc zero) = omega arith
unless (suc (suc n)) = omega arith

pub in_table : (fault : EmitError) → status_of fault ≤ 7
in_table (emit.Source fault) = unless (source.number_of fault)
in_table emit.NoMemory = omega arith
in_table emit.Write = omega arith
