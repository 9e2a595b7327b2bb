use Rattle.std.proofs.Common.{◌≡◌, ◌++◌, ◌-◌, ◌+◌, drop, max}
use Rattle.native_lowering_definition.specs.Blocks.{saves}
use Rattle.native_lowering_frames.proofs.saving.add_saves.Given as goal

abbrev pub invariant-loop-j : goal.invariant-loop-j
invariant-loop-j l = l.out.items ++ saves (l.first + l.j) (drop l.j l.saved) ≡ l.fn.out.items ++ saves l.first l.saved
