use Rattle.std.proofs.Common.{◌≡◌, ◌++◌, ◌-◌, ◌+◌, ℕ}
use Rattle.native_text_doors.specs.Doors.{repeated, stacked_text}
use Rattle.native_text_doors.proofs.doors.push_all_stacked.Given as goal

abbrev pub invariant-loop-done : goal.invariant-loop-done
invariant-loop-done l = l.out.items ≡ l.fn.out.items ++ repeated l.done (stacked_text l.n)
