-- Each status of `build` is at most 7.
use Rattle.std.specs.Prelude.{ℕ, zero, suc, ◌≤◌}
use Rattle.std.proofs.Common.{arith}
use Rattle.farm_nodes_source.specs.Told as texts
use Rattle.cfarm_build_faults.specs.Halted as halts
use Rattle.cfarm_build_faults.specs.Numbers.{disks_number_of}
use Rattle.cfarm_build_faults.specs.Statuses.{status_of, unless_memory}
use Rattle.cfarm_build_faults.specs.declared.error.BuildError.{BuildError}
use Rattle.cfarm_build_faults.specs.declared.error.BuildError.TheVariants as B

unless : (n status : ℕ) → status ≤ 7 → unless_memory n status ≤ 7
unless zero status small = small
unless (suc zero) status small = omega arith
unless (suc (suc n)) status small = small

pub in_table : (e : BuildError) → status_of e ≤ 7
in_table B.NoMemory = omega arith
in_table B.NoThread = omega arith
in_table (B.Source fault) = unless (texts.number_of fault) 1 (omega arith)
in_table (B.Disks fault) = unless (disks_number_of fault) 4 (omega arith)
in_table (B.Failed node fault) = unless (halts.number_of fault) 4 (omega arith)
in_table B.Undecided = omega arith
in_table (B.Unlinked fault name) = omega arith
in_table B.Names = omega arith
