use Rattle.farm_nodes_link.specs.Learned.{learned_by}
use Rattle.farm_nodes_link.proofs.Wanting.{NoneWanting}
use Rattle.farm_nodes_link.proofs.learned.is_undecided.Given as goal

-- of the first functions none is wanting
abbrev pub invariant-loop-function : goal.invariant-loop-function
invariant-loop-function g l = NoneWanting (learned_by l.seats) l.function
