use Rattle.std.proofs.Common.{◌≡◌}
use Rattle.x86_state.specs.Shows.{shows}
use Rattle.x86.specs.Meaning.{next}
use Rattle.x86.specs.Runs.{state_of}
use Rattle.x86.proofs.whole.run_on.Given as goal

abbrev pub invariant-loop-left : goal.invariant-loop-left
invariant-loop-left l = shows (next l.functions l.room) l.limit (state_of l.junk l.fn.run) ≡ shows (next l.functions l.room) l.left (state_of l.junk l.run)

abbrev pub decreases-loop-left : goal.decreases-loop-left
decreases-loop-left l = l.left
