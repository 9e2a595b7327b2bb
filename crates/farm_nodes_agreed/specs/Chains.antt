-- Learned offers of which each goes on from the output of the one before it.
use Rattle.std.specs.Prelude.{◌≡◌, Option, Some, None}
use Rattle.offers.specs.declared.parts.Parts.{Parts}
use Rattle.rooms_hall.specs.declared.hall.Naming as naming
use Rattle.rtl_language.specs.Function as rtl
use Rattle.farm_nodes_turn_passes.specs.NumberedSeat.{NumberedSeat}
use Rattle.farm_nodes_turn_passes.specs.declared.which.Which.{Which}
use Rattle.farm_nodes_turn_passes.specs.declared.which.Which.TheVariants.{Constants, Expressions, Allocation, Order}
use Rattle.farm_nodes_meet_seats.specs.Learned.{learned_offer}

-- there is an offer, of this input
abbrev pub GoesOnFrom : {In Out Cert : Type 0} → In → Option (Parts In Out Cert) → Type 0
GoesOnFrom input None = ⊥
GoesOnFrom input (Some offer) = offer.input ≡ input

-- there are both, and the second goes on from the output of the first
abbrev pub Follows : {In Mid Out Cert Cert2 : Type 0} → Option (Parts In Mid Cert) → Option (Parts Mid Out Cert2) → Type 0
Follows None second = ⊥
Follows (Some first) second = GoesOnFrom first.output second

module _ {H : Type 0} {h : naming.Ghosts H} where
  -- In each pass before this one an offer is learned and seen: in the first it goes on from the function, in each other one from the output of
  -- the offer before it.
  abbrev pub GoOnBefore : rtl.FunctionData → NumberedSeat H h → Which → Type 0
  GoOnBefore function s Constants = Unit {0}
  GoOnBefore function s Expressions = GoesOnFrom function (learned_offer s.seat.first)
  GoOnBefore function s Allocation =
      GoesOnFrom function (learned_offer s.seat.first) × Follows (learned_offer s.seat.first) (learned_offer s.seat.second)
  GoOnBefore function s Order =
      GoesOnFrom function (learned_offer s.seat.first) × Follows (learned_offer s.seat.first) (learned_offer s.seat.second)
      × Follows (learned_offer s.seat.second) (learned_offer s.seat.third)
