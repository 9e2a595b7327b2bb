use Rattle.std.proofs.Common.{◌≡◌, ◌++◌, ◌-◌, ◌+◌, drop, max}
use Rattle.native_lowering_definition.specs.Locations.{passing}
use Rattle.native_lowering_definition.specs.Moving.{fetches_each}
use Rattle.native_lowering_frames.proofs.passing.add_fetches.Given as goal

abbrev pub invariant-loop-j : goal.invariant-loop-j
invariant-loop-j l = l.out.items ++ fetches_each l.frame (drop l.j passing) (drop l.j l.arguments) ≡ l.fn.out.items ++ fetches_each l.frame passing l.arguments
