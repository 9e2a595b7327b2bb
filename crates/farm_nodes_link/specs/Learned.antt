-- The four offers of a function that a node has learned, as it has seen them.
use Rattle.std.specs.Prelude.{◌≡◌, ℕ, List, map, slice_get, Option, Some, None}
use Rattle.rooms_hall.specs.declared.hall.Naming as naming
use Rattle.farm_nodes_meet_seats.specs.Offers.{ConstantsOffer, ExpressionsOffer, AllocationOffer, OrderOffer}
use Rattle.farm_nodes_meet_seats.specs.NumberedSeat.{NumberedSeat}
use Rattle.farm_nodes_meet_seats.specs.Learned.{learned_offer}

-- an offer of each pass
pub record FourOffers : Type 0 where
  pub constants : ConstantsOffer
  pub expressions : ExpressionsOffer
  pub allocation : AllocationOffer
  pub order : OrderOffer

-- all four, where none is wanting
abbrev pub all_four : Option ConstantsOffer → Option ExpressionsOffer → Option AllocationOffer → Option OrderOffer → Option FourOffers
all_four None b c d = None
all_four (Some w) None c d = None
all_four (Some w) (Some x) None d = None
all_four (Some w) (Some x) (Some y) None = None
all_four (Some w) (Some x) (Some y) (Some z) = Some (record { constants = w; expressions = x; allocation = y; order = z })

module _ {H : Type 0} {h : naming.Ghosts H} where
  -- the offers learned in the four rooms, where in each one is learned and seen
  abbrev pub learned_four : NumberedSeat H h → Option FourOffers
  learned_four s = all_four (learned_offer s.seat.first) (learned_offer s.seat.second) (learned_offer s.seat.third) (learned_offer s.seat.fourth)

  -- by function
  abbrev pub learned_by : List (NumberedSeat H h) → List (Option FourOffers)
  learned_by seats = map learned_four seats

-- of one of the functions the four offers are not learned and seen
pub record IsUndecided (learned : List (Option FourOffers)) : Type 0 where
  pub function : ℕ
  pub wanting : slice_get learned function ≡ Some None
