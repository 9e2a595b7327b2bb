-- When a node leads its room.
use Rattle.std.specs.Prelude.{ℕ, nat_le, Bool, false, Option, Some, None}
use Rattle.paxos_core_node_steps.specs.NodeState.{NodeState}

-- the ballot, if there is one, is not below the other
abbrev pub is_not_below : Option ℕ → ℕ → Bool
is_not_below None other = false
is_not_below (Some ballot) other = nat_le other ballot

-- the node's own ballot is under way, and it has promised no higher one
abbrev pub leads : NodeState → Bool
leads s = is_not_below s.ballot s.kept.promised
