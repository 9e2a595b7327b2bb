use Rattle.linearize_check_layout.specs.Reach.{IsFirstThenRising}
use Rattle.linearize_check_layout.proofs.Risings.{MarkedBelow}
use Rattle.linearize_check_layout.proofs.listing.rising_marked.Given as goal

-- so far the marked numbers below the place
abbrev pub invariant-loop-place : goal.invariant-loop-place
invariant-loop-place l = IsFirstThenRising (MarkedBelow l.marks l.place) l.entry l.order.items
