-- The values of a node's seats in the four rooms of a function.
use Rattle.std.specs.Prelude.{List, map}
use Rattle.farm_nodes_turn_offer.specs.SeatState.{SeatState}
use Rattle.farm_nodes_turn_offer.specs.SeatValue.{SeatValue}
use Rattle.rooms_numbered.specs.Claimed.{Claimed}
use Rattle.rooms_numbered.specs.Naming as naming
use Rattle.farm_nodes_turn_passes.specs.Offers.{ConstantsOffer, ExpressionsOffer, AllocationOffer, OrderOffer}
use Rattle.rooms_numbered.specs.declared.seat.NumberedSeat.{NumberedSeat}
use Rattle.farm_nodes_turn_passes.specs.declared.which.Which.{Which}
use Rattle.farm_nodes_turn_passes.specs.declared.which.Which.TheVariants.{Constants, Expressions, Allocation, Order}

-- X1 to X4 are what the offers of the four passes are; the number is that of the rooms
pub record Four (X1 X2 X3 X4 : Type 0) : Type 0 where
  pub constants : SeatValue X1
  pub expressions : SeatValue X2
  pub allocation : SeatValue X3
  pub order : SeatValue X4
  pub number : Claimed

-- the words of the seat of a pass
abbrev pub words_of : {X1 X2 X3 X4 : Type 0} → Four X1 X2 X3 X4 → Which → SeatState
words_of s Constants = s.constants.words
words_of s Expressions = s.expressions.words
words_of s Allocation = s.allocation.words
words_of s Order = s.order.words

module _ {H : Type 0} {h : naming.Ghosts H} where
  abbrev pub four_of : NumberedSeat H h → Four ConstantsOffer ExpressionsOffer AllocationOffer OrderOffer
  four_of s = record {
    constants = s.seat.first;
    expressions = s.seat.second;
    allocation = s.seat.third;
    order = s.seat.fourth;
    number = s.claim;
  }

  -- by function
  abbrev pub fours_of : List (NumberedSeat H h) → List (Four ConstantsOffer ExpressionsOffer AllocationOffer OrderOffer)
  fours_of seats = map four_of seats
