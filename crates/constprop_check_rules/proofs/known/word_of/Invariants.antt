use Rattle.std.proofs.Common.{◌≡◌, drop}
use Rattle.constprop_check_rules.specs.Known.{fact_at}
use Rattle.constprop_check_rules.proofs.known.word_of.Given as goal

abbrev pub invariant-loop-fact : goal.invariant-loop-fact
invariant-loop-fact l = fact_at (drop l.fact-index l.facts) l.register ≡ fact_at l.facts l.register
