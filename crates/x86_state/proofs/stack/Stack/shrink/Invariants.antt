use Rattle.std.proofs.Common.{◌≡◌}
use Rattle.x86_state.specs.Cells.{shrunk}
use Rattle.x86_state.proofs.stack.Stack.shrink.Given as goal

abbrev pub invariant-loop-left : goal.invariant-loop-left
invariant-loop-left l = shrunk l.left l.self ≡ shrunk l.fn.count l.fn.self

abbrev pub decreases-loop-left : goal.decreases-loop-left
decreases-loop-left l = l.left
