use Rattle.std.proofs.Common.{drop}
use Rattle.std.specs.Prelude.{◌↔◌}
use Rattle.rtl_passes_marks.specs.Ranked.{RiseFrom}
use Rattle.rtl_passes_facts.proofs.order.rise.Given as goal

abbrev pub invariant-loop-fact : goal.invariant-loop-fact
invariant-loop-fact g l = RiseFrom g.R.Rules.rules.rank l.lower (drop l.fact-index l.facts) ↔ RiseFrom g.R.Rules.rules.rank 0 l.facts
