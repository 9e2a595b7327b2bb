use Rattle.std.proofs.Common.{◌≡◌, ◌++◌, take}
use Rattle.std.specs.List.{flat_map}
use Rattle.native_text.specs.Lines.{lines}
use Rattle.native_text.proofs.whole.push_code.Given as goal

abbrev pub invariant-loop-instruction : goal.invariant-loop-instruction
invariant-loop-instruction l = l.out.items ≡ l.fn.out.items ++ flat_map (lines l.here) (take l.instruction-index l.code)
