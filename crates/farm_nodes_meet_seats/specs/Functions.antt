-- The seats of two nodes in the four rooms of a function, which have met.
use Rattle.std.specs.Prelude.{◌≡◌, ◌≢◌, ◌↔◌, Bool, IsSome, IsTrue}
use Rattle.farm_nodes_meet_seats.specs.Held.{Held}
use Rattle.farm_nodes_meet_seats.specs.Learned.{learned_offer}
use Rattle.farm_nodes_meet_seats.specs.Rooms as room

module _ {T1 T2 T3 T4 : Type 0} where
  -- all four rooms of the one are those of the other
  pub record AreOne (s t : Held T1 T2 T3 T4) : Type 0 where
    pub constants : room.AreOne s.constants t.constants
    pub expressions : room.AreOne s.expressions t.expressions
    pub allocation : room.AreOne s.allocation t.allocation
    pub order : room.AreOne s.order t.order

  -- the number of the one is another than that of the other
  abbrev pub HaveTwoNumbers : Held T1 T2 T3 T4 → Held T1 T2 T3 T4 → Type 0
  HaveTwoNumbers s t = s.constants.claim.number ≢ t.constants.claim.number

  -- both link the function, with all four offers seen
  pub record BothLink (s t : Held T1 T2 T3 T4) : Type 0 where
    pub constants : room.LinkIn s.constants t.constants
    pub expressions : room.LinkIn s.expressions t.expressions
    pub allocation : room.LinkIn s.allocation t.allocation
    pub order : room.LinkIn s.order t.order

  -- in each room an offer is learned, and seen
  pub record HasAll (s : Held T1 T2 T3 T4) : Type 0 where
    pub constants : IsSome (learned_offer s.constants.seat)
    pub expressions : IsSome (learned_offer s.expressions.seat)
    pub allocation : IsSome (learned_offer s.allocation.seat)
    pub order : IsSome (learned_offer s.order.seat)

  -- they hold the same four learned offers, so the same code
  pub record HoldSameOffers (s t : Held T1 T2 T3 T4) : Type 0 where
    pub constants : learned_offer s.constants.seat ≡ learned_offer t.constants.seat
    pub expressions : learned_offer s.expressions.seat ≡ learned_offer t.expressions.seat
    pub allocation : learned_offer s.allocation.seat ≡ learned_offer t.allocation.seat
    pub order : learned_offer s.order.seat ≡ learned_offer t.order.seat

  -- they have met in each of the four rooms
  pub record MetIn (s t s' t' : Held T1 T2 T3 T4) : Type 0 where
    pub constants : room.MetIn s.constants t.constants s'.constants t'.constants
    pub expressions : room.MetIn s.expressions t.expressions s'.expressions t'.expressions
    pub allocation : room.MetIn s.allocation t.allocation s'.allocation t'.allocation
    pub order : room.MetIn s.order t.order s'.order t'.order

  -- they have met, and it is told whether both link the function; where they do they hold the same code
  pub record HasMet (s t s' t' : Held T1 T2 T3 T4) (told : Bool) : Type 0 where
    pub met : MetIn s t s' t'
    pub link : IsTrue told ↔ BothLink s' t'
    pub same : BothLink s' t' → HoldSameOffers s' t'
