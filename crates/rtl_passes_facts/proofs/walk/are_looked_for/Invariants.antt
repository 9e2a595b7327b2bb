use Rattle.rtl_passes_filled.proofs.Rising.{IsLeftAt}
use Rattle.rtl_passes_facts.proofs.walk.are_looked_for.Given as goal

abbrev pub invariant-loop-fact : goal.invariant-loop-fact
invariant-loop-fact g l = IsLeftAt g.R.Rules.rules.rank (g.R.Rules.makes l.change) (g.R.Rules.keeps l.change) l.before l.after l.left l.fact-index
