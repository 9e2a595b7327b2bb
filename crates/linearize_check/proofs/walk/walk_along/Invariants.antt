use Rattle.std.proofs.Common.{◌≡◌, drop}
use Rattle.linearize_check.specs.Faults.{StandsAt, TellsLowest, place_at}
use Rattle.linearize_check.proofs.walk.walk_along.Given as goal

abbrev pub invariant-loop-i : goal.invariant-loop-i
invariant-loop-i l = record {
  lowest : TellsLowest (StandsAt l.blocks l.code l.order) l.order l.i l.misplaced;
  left : l.left ≡ drop (place_at l.blocks l.order l.i) l.code;
}
