-- What records tell of a node's offer.
use Rattle.std.specs.Prelude.{◌≡◌, ℕ, ◌<◌, true, false, List, Some}
use Rattle.acceptor_log_form.specs.declared.record.Record.{Record}
use Rattle.rooms.specs.SeatValue.{SeatValue, offer_of}
use Rattle.farm_nodes_turn_step.specs.SeatState.{SeatState}
use Rattle.farm_nodes_turn_step.specs.Ordered.{AreOrdered}
pub use Rattle.farm_nodes_turn_step.specs.OfferIn.{offer_by, last_offer_in, IsToldAs}

-- these bytes are the text of the offer that stands in the cell of the seat's own node
abbrev pub IsOwnText : {T : Type 0} → (List ℕ → T → Type 0) → SeatValue T → List ℕ → Type 0
IsOwnText {T} IsText s bytes = (x : T) × (offer_of s s.words.node.me ≡ Some x) × IsText bytes x

-- Where the node has made its offer between two states of its seat, behind records in order, the records up to some place
-- tell the offer's text, which is so.
abbrev pub TellNew : (List ℕ → Type 0) → ℕ → SeatState → SeatState → List Record → List Record → Type 0
TellNew Is room s t before upto =
    (rooms : ℕ) → room < rooms → AreOrdered rooms room s before
    → s.node.kept.offered ≡ false → t.node.kept.offered ≡ true → IsToldAs Is (last_offer_in upto room)
