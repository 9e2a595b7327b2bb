-- The seats of each pass, with the numbers of their rooms, and how those of all functions open.
use Rattle.std.specs.Prelude.{ℕ, List}
use Rattle.std.specs.Global.{Vec}
use Rattle.paxos_core_world.specs.KeptPart.{KeptPart}
use Rattle.paxos_core_world.specs.Quorum.{Sizes}
use Rattle.rooms.specs.SeatValue.{SeatValue}
use Rattle.rooms_hall.specs.Claimed.{Claimed}
use Rattle.rooms_hall.specs.declared.hall.Naming as naming
use Rattle.farm_nodes_turn_passes.specs.NumberedSeat.{NumberedSeat}
use Rattle.farm_nodes_turn_passes.specs.Offers.{ConstantsOffer, ExpressionsOffer, AllocationOffer, OrderOffer}
use Rattle.farm_nodes_turn_passes.specs.declared.which.Which.TheVariants.{Constants, Expressions, Allocation, Order}
use Rattle.farm_nodes_open_lists.specs.Rows.{rows_of}
use Rattle.farm_nodes_open_rooms.specs.Function.{Offered}
use Rattle.farm_nodes_open_rooms.specs.Opened.{AreOpenedIn}

module _ {H : Type 0} {h : naming.Ghosts H} where
  abbrev pub constants_seat : NumberedSeat H h → SeatValue ConstantsOffer × Claimed
  constants_seat s = (s.seat.first, s.claim)

  abbrev pub expressions_seat : NumberedSeat H h → SeatValue ExpressionsOffer × Claimed
  expressions_seat s = (s.seat.second, s.claim)

  abbrev pub allocation_seat : NumberedSeat H h → SeatValue AllocationOffer × Claimed
  allocation_seat s = (s.seat.third, s.claim)

  abbrev pub order_seat : NumberedSeat H h → SeatValue OrderOffer × Claimed
  order_seat s = (s.seat.fourth, s.claim)

  -- in each room of a pass they are those of the room as it opens from what was kept of it and offered there
  module _ (q : Sizes) (kept : List (Vec KeptPart)) (functions : ℕ) (offers : Offered) (rows : List (List (NumberedSeat H h))) where
    abbrev pub OpenConstants : Type 0
    OpenConstants = AreOpenedIn q kept Constants functions (rows_of offers.constants.items) constants_seat rows

    abbrev pub OpenExpressions : Type 0
    OpenExpressions = AreOpenedIn q kept Expressions functions (rows_of offers.expressions.items) expressions_seat rows

    abbrev pub OpenAllocation : Type 0
    OpenAllocation = AreOpenedIn q kept Allocation functions (rows_of offers.allocation.items) allocation_seat rows

    abbrev pub OpenOrder : Type 0
    OpenOrder = AreOpenedIn q kept Order functions (rows_of offers.order.items) order_seat rows
