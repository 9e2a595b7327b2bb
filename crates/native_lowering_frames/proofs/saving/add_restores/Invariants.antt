use Rattle.std.proofs.Common.{◌≡◌, ◌++◌, ◌-◌, ◌+◌, drop, max}
use Rattle.native_lowering_definition.specs.Blocks.{restores}
use Rattle.native_lowering_frames.proofs.saving.add_restores.Given as goal

abbrev pub invariant-loop-j : goal.invariant-loop-j
invariant-loop-j l = l.out.items ++ restores (l.first + l.j) (drop l.j l.saved) ≡ l.fn.out.items ++ restores l.first l.saved
