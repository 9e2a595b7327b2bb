-- What a halted node has pending with its seats: an act asked of a node of the room, or its offer, which is not made yet.
use Rattle.std.specs.Prelude.{ℕ, List, Option}
use Rattle.rooms_numbered.specs.Naming as naming
use Rattle.farm_nodes_turn_offer.specs.FarmNodesTurnStepPending.{Pending}
use Rattle.rooms_numbered.specs.declared.seat.NumberedSeat.{NumberedSeat}
use Rattle.farm_nodes_turn_passes.specs.declared.which.Which.{Which}
use Rattle.farm_nodes_turn_passes.specs.Fours.{four_of, fours_of}
use Rattle.farm_nodes_turn_passes.specs.Leaves.{MayPend, MayPendIn}
use Rattle.farm_nodes_turn_passes.specs.Offers.{IsConstants, IsExpressions, IsAllocation, IsOrder}

module _ {H : Type 0} {h : naming.Ghosts H} where
  -- with the seat of a pass
  abbrev pub HasPending : NumberedSeat H h → ℕ → Which → Option Pending → Type 0
  HasPending s room which p = MayPendIn IsConstants IsExpressions IsAllocation IsOrder room which (four_of s) p

  -- with the seat of the room
  abbrev pub HavePending : List (NumberedSeat H h) → ℕ → Option Pending → Type 0
  HavePending seats room p = MayPend IsConstants IsExpressions IsAllocation IsOrder room (fours_of seats) p
