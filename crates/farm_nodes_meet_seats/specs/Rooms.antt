-- Two seats that have met.
use Rattle.std.specs.Prelude.{◌≡◌, ◌↔◌, ℕ, Some, IsSome}
use Rattle.farm_nodes_turn_passes.specs.SeatValue.{IsOneRoom, SeatValue}
use Rattle.farm_nodes_turn_passes.specs.Meeting.{HaveMet, Remains}
use Rattle.farm_nodes_meet_seats.specs.Held.{Numbered}
use Rattle.farm_nodes_meet_seats.specs.Learned.{learned_offer}

-- they are of one room
abbrev pub AreOne : {T : Type 0} → Numbered T → Numbered T → Type 0
AreOne a b = IsOneRoom a.seat b.seat

-- and there both have learned, and have seen the offer
pub record LinkIn {T : Type 0} (a b : Numbered T) : Type 0 where
  pub room : AreOne a b
  pub first : IsSome (learned_offer a.seat)
  pub second : IsSome (learned_offer b.seat)

-- what both have learned is one value, and where both have seen the offer, they hold one offer
pub record HoldOne {T : Type 0} (s t : SeatValue T) : Type 0 where
  pub value : (v u : ℕ) → s.words.node.learned ≡ Some v → t.words.node.learned ≡ Some u → v ≡ u
  pub offer : IsSome (learned_offer s) → IsSome (learned_offer t) → learned_offer s ≡ learned_offer t

-- Each has its number, and the sights that it had, and is of the room that it was of; what it had learned and what its node
-- keeps stays. They are of one room exactly where they have one number. Seats of two rooms are as they were; those of one room have
-- met, and they hold one offer.
pub record MetIn {T : Type 0} (a b a' b' : Numbered T) : Type 0 where
  pub first_number : a'.claim ≡ a.claim
  pub second_number : b'.claim ≡ b.claim
  pub first_sights : a'.seat.sights ≡ a.seat.sights
  pub second_sights : b'.seat.sights ≡ b.seat.sights
  pub first_remains : Remains a.seat.words a'.seat.words
  pub second_remains : Remains b.seat.words b'.seat.words
  pub room : AreOne a b ↔ AreOne a' b'
  pub number : AreOne a b ↔ (a.claim.number ≡ b.claim.number)
  pub apart : (AreOne a b → ⊥) → (a'.seat ≡ a.seat) × (b'.seat ≡ b.seat)
  pub met : AreOne a b → HaveMet a.seat.words b.seat.words a'.seat.words b'.seat.words
  pub one : AreOne a b → HoldOne a'.seat b'.seat
