use Rattle.std.proofs.Common.{◌≡◌, ◌++◌, ◌-◌, ◌+◌, drop, max}
use Rattle.native_lowering_definition.specs.Locations.{passing}
use Rattle.native_lowering_definition.specs.Moving.{puts_each}
use Rattle.native_lowering_frames.proofs.passing.add_puts.Given as goal

abbrev pub invariant-loop-j : goal.invariant-loop-j
invariant-loop-j l = l.out.items ++ puts_each l.frame (drop l.j l.parameters) (drop l.j passing) ≡ l.fn.out.items ++ puts_each l.frame l.parameters passing
