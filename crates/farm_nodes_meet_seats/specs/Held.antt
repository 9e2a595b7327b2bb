-- A node's seats in the four rooms of a function, each with the claim to the number that the rooms share. A T is what an offer is.
use Rattle.farm_nodes_turn_passes.specs.SeatValue.{SeatValue}
use Rattle.rooms_hall.specs.Claimed.{Claimed}
use Rattle.rooms_hall.specs.declared.hall.Naming as naming
use Rattle.farm_nodes_turn_passes.specs.NumberedSeat.{NumberedSeat}
use Rattle.farm_nodes_turn_passes.specs.Offers.{ConstantsOffer, ExpressionsOffer, AllocationOffer, OrderOffer}

pub record Numbered (T : Type 0) : Type 0 where
  pub claim : Claimed
  pub seat : SeatValue T

abbrev pub numbered : {T : Type 0} → Claimed → SeatValue T → Numbered T
numbered c s = record { claim = c; seat = s }

pub record Held (T1 T2 T3 T4 : Type 0) : Type 0 where
  pub constants : Numbered T1
  pub expressions : Numbered T2
  pub allocation : Numbered T3
  pub order : Numbered T4

abbrev pub held : {T1 T2 T3 T4 : Type 0} → Claimed → SeatValue T1 → Claimed → SeatValue T2 → Claimed → SeatValue T3
    → Claimed → SeatValue T4 → Held T1 T2 T3 T4
held c1 s1 c2 s2 c3 s3 c4 s4 =
    record { constants = numbered c1 s1; expressions = numbered c2 s2; allocation = numbered c3 s3; order = numbered c4 s4 }

abbrev pub held_of : {H : Type 0} {h : naming.Ghosts H} → NumberedSeat H h → Held ConstantsOffer ExpressionsOffer AllocationOffer OrderOffer
held_of s = held s.claim s.seat.first s.claim s.seat.second s.claim s.seat.third s.claim s.seat.fourth
