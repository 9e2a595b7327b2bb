use Rattle.std.proofs.Common.{◌≡◌, map, drop}
use Rattle.farm_nodes_turn_node.specs.Held.{fault_in}
use Rattle.cfarm_build_turns.specs.Nodes.{lowest_failed}
use Rattle.cfarm_build_turns.proofs.failing.first_failed.Given as goal

-- the lowest one that failed is none of the first nodes
abbrev pub invariant-loop-number : goal.invariant-loop-number
invariant-loop-number g l =
    lowest_failed 0 (map (λ n. fault_in n.halted) l.nodes) ≡ lowest_failed l.number (map (λ n. fault_in n.halted) (drop l.number l.nodes))
