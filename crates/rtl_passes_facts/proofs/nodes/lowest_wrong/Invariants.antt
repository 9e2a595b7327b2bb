use Rattle.rtl_passes_facts.proofs.Tested.{IsTested}
use Rattle.rtl_passes_facts.proofs.nodes.lowest_wrong.Given as goal

abbrev pub invariant-loop-n : goal.invariant-loop-n
invariant-loop-n g l = IsTested g.R.Rules.rules l.input l.output l.rows l.lists.items l.n
