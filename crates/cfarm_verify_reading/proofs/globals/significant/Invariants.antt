use Rattle.std.proofs.Common.{◌≡◌, ◌≤◌, length, take}
use Rattle.cminor_lowering.specs.Programs.{without_zeros}
use Rattle.cfarm_verify_reading.proofs.globals.significant.Given as goal

abbrev pub invariant-loop-count : goal.invariant-loop-count
invariant-loop-count l = record { within : l.count ≤ length l.words; front : without_zeros (take l.count l.words) ≡ without_zeros l.words }

abbrev pub decreases-loop-count : goal.decreases-loop-count
decreases-loop-count l = l.count
