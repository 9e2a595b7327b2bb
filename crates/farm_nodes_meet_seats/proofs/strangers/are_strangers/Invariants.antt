use Rattle.farm_nodes_meet_seats.specs.Held.{held_of}
use Rattle.farm_nodes_meet_seats.proofs.Strange.{AreStrange}
use Rattle.farm_nodes_meet_seats.proofs.strangers.are_strangers.Given as goal

-- of each of the first functions the rooms have two numbers
abbrev pub invariant-loop-function : goal.invariant-loop-function
invariant-loop-function g l = AreStrange held_of l.first l.second l.function
