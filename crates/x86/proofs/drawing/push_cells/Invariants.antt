use Rattle.std.proofs.Common.{◌≡◌}
use Rattle.x86.specs.Framing.{with_cells}
use Rattle.x86.specs.Runs.{state_of}
use Rattle.x86.proofs.drawing.push_cells.Given as goal

abbrev pub invariant-loop-left : goal.invariant-loop-left
invariant-loop-left l = record {
  state : with_cells l.left (state_of l.junk l.run) ≡ with_cells l.fn.count (state_of l.junk l.fn.run);
  place : l.run.place ≡ l.fn.run.place;
}

abbrev pub decreases-loop-left : goal.decreases-loop-left
decreases-loop-left l = l.left
