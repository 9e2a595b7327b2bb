use Rattle.std.proofs.Common.{length}
use Rattle.rtl_passes_filled.proofs.Rising.{IsBehind}
use Rattle.rtl_passes_facts.proofs.walk.behind_front.Given as goal

abbrev pub invariant-loop-left : goal.invariant-loop-left
invariant-loop-left g l = IsBehind g.R.Rules.rules.rank (g.R.Rules.makes l.change) (g.R.Rules.keeps l.change) l.before l.after l.left l.rest

abbrev pub decreases-loop-left : goal.decreases-loop-left
decreases-loop-left g l = length l.left
