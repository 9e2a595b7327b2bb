use Rattle.std.proofs.Common.{length}
use Rattle.rtl_passes_filled.proofs.Rising.{IsLeftFrom}
use Rattle.rtl_passes_facts.proofs.walk.from_place.Given as goal

abbrev pub invariant-loop-left : goal.invariant-loop-left
invariant-loop-left g l = IsLeftFrom g.R.Rules.rules.rank l.least l.facts l.left

abbrev pub decreases-loop-left : goal.decreases-loop-left
decreases-loop-left g l = length l.left
