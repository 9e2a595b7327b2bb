-- The offer that a seat has learned, as it has seen it.
use Rattle.std.specs.Prelude.{ℕ, cond, nat_lt, Option, Some, None}
use Rattle.farm_nodes_turn_passes.specs.SeatValue.{SeatValue, offer_of}

-- what it has seen of the offer of the node that it has learned, where that is one of the room
abbrev pub offer_learned : {T : Type 0} → SeatValue T → Option ℕ → Option T
offer_learned s None = None
offer_learned s (Some v) = cond (nat_lt v s.words.node.quorums.nodes) (offer_of s v) None

abbrev pub learned_offer : {T : Type 0} → SeatValue T → Option T
learned_offer s = offer_learned s s.words.node.learned
