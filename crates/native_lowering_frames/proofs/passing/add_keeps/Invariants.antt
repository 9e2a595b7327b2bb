use Rattle.std.proofs.Common.{◌≡◌, ◌++◌, ◌-◌, ◌+◌, drop, max}
use Rattle.native_lowering_definition.specs.Moving.{keeps_each}
use Rattle.native_lowering_frames.proofs.passing.add_keeps.Given as goal

abbrev pub invariant-loop-j : goal.invariant-loop-j
invariant-loop-j l = l.out.items ++ keeps_each l.frame (l.j - 4) (drop l.j l.arguments) ≡ l.fn.out.items ++ keeps_each l.frame 0 (drop 4 l.arguments)
