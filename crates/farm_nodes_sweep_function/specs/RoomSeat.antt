-- The seat of one room, with the offers of its pass, and what a step is in that room.
use Rattle.std.specs.Arc.{arc_value}
use Rattle.rooms_crash.specs.SeatAct.{SeatAct}
use Rattle.rooms_crash.specs.SeatState.{SeatState}
use Rattle.farm_nodes_turn_offer.specs.SeatValue.{SeatValue}
use Rattle.farm_nodes_turn_passes.specs.Fours.{Four}
use Rattle.farm_nodes_turn_passes.specs.Offers.{ConstantsOffer, ExpressionsOffer, AllocationOffer, OrderOffer}
use Rattle.farm_nodes_turn_passes.specs.declared.which.Which.{Which}
use Rattle.farm_nodes_turn_passes.specs.declared.which.Which.TheVariants.{Constants, Expressions, Allocation, Order}
use Rattle.farm_nodes_sweep_function.specs.declared.planned.Step.{Step}
use Rattle.farm_nodes_sweep_function.specs.declared.planned.Step.TheVariants.{Act, First, Second, Third, Fourth}

-- a node's seats in the four rooms of a function
abbrev pub Fours : Type 0
Fours = Four ConstantsOffer ExpressionsOffer AllocationOffer OrderOffer

-- the seat in a room of one of the four passes
pub data RoomSeat : Type 0 where
  InConstants : SeatValue ConstantsOffer → RoomSeat
  InExpressions : SeatValue ExpressionsOffer → RoomSeat
  InAllocation : SeatValue AllocationOffer → RoomSeat
  InOrder : SeatValue OrderOffer → RoomSeat

abbrev pub seat_of : Fours → Which → RoomSeat
seat_of s Constants = InConstants s.constants
seat_of s Expressions = InExpressions s.expressions
seat_of s Allocation = InAllocation s.allocation
seat_of s Order = InOrder s.order

-- its words
abbrev pub words_in : RoomSeat → SeatState
words_in (InConstants s) = s.words
words_in (InExpressions s) = s.words
words_in (InAllocation s) = s.words
words_in (InOrder s) = s.words

-- what a step is in a room whose offers are T: an act, the node's offer there, or the offer of another room
pub data Task (T : Type 0) : Type 0 where
  Acts : SeatAct → Task T
  Lays : T → Task T
  Foreign : Task T

abbrev pub for_constants : Step → Task ConstantsOffer
for_constants (Act a) = Acts a
for_constants (First offer) = Lays (arc_value offer)
for_constants (Second offer) = Foreign
for_constants (Third offer) = Foreign
for_constants (Fourth offer) = Foreign

abbrev pub for_expressions : Step → Task ExpressionsOffer
for_expressions (Act a) = Acts a
for_expressions (First offer) = Foreign
for_expressions (Second offer) = Lays (arc_value offer)
for_expressions (Third offer) = Foreign
for_expressions (Fourth offer) = Foreign

abbrev pub for_allocation : Step → Task AllocationOffer
for_allocation (Act a) = Acts a
for_allocation (First offer) = Foreign
for_allocation (Second offer) = Foreign
for_allocation (Third offer) = Lays (arc_value offer)
for_allocation (Fourth offer) = Foreign

abbrev pub for_order : Step → Task OrderOffer
for_order (Act a) = Acts a
for_order (First offer) = Foreign
for_order (Second offer) = Foreign
for_order (Third offer) = Foreign
for_order (Fourth offer) = Lays (arc_value offer)
