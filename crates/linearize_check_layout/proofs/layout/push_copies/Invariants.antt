use Rattle.std.proofs.Common.{◌≡◌, ◌++◌, [], take}
use Rattle.linearize_check_proof.specs.Layout.{copies}
use Rattle.linearize_check_layout.proofs.layout.push_copies.Given as goal

-- so far the first moves are added
abbrev pub invariant-loop-step : goal.invariant-loop-step
invariant-loop-step l = l.code.items ≡ l.initial.code.items ++ copies (take l.step-index l.moves) []
