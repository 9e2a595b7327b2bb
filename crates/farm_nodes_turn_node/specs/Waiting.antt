-- What a stopped node has not done.
use Rattle.std.specs.Prelude.{List, Option, Some, None}
use Rattle.rooms_hall.specs.declared.hall.Naming as naming
use Rattle.farm_nodes_turn_function.specs.NumberedSeat.{NumberedSeat}
use Rattle.farm_nodes_turn_function.specs.Pending.{HavePending}
use Rattle.farm_nodes_turn_node.specs.declared.halted.Halted.{Halted}

module _ {H : Type 0} {h : naming.Ghosts H} where
  -- Where it is stopped, it may have an act pending that it was asked of a node of the room, or its offer.
  abbrev pub IsWaiting : List (NumberedSeat H h)
      → Option Halted → Type 0
  IsWaiting seats None = Unit {0}
  IsWaiting seats (Some stopped) = HavePending seats stopped.room stopped.halt.pending
