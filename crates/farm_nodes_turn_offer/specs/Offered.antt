-- What a node's offer leaves of its seat and its journal.
use Rattle.std.specs.Prelude.{◌≡◌, ◌≢◌, ℕ, false, List, Option, Some, None}
use Rattle.farm_nodes_turn_step.specs.NodeState.{offered}
use Rattle.acceptor_log_form.specs.declared.record.Record.TheVariants.{Offered}
use Rattle.farm_nodes_turn_step.specs.declared.stop.Pending.{Pending}
use Rattle.farm_nodes_turn_step.specs.declared.stop.Pending.TheVariants as waiting
use Rattle.rooms.specs.SeatValue.{SeatValue, offer_of}

-- the node had not offered; its offer x stands in its cell, where the seat has seen it, and all else is as it was
pub record PutsOffer {T : Type 0} (x : T) (old new : SeatValue T) : Type 0 where
  pub first : old.words.node.kept.offered ≡ false
  pub empty : offer_of old old.words.node.me ≡ None
  pub words : new.words ≡ record old.words { node = offered old.words.node }
  pub own : offer_of new old.words.node.me ≡ Some x
  pub others : (j : ℕ) → j ≢ old.words.node.me → offer_of new j ≡ offer_of old j

-- nothing is pending, or the offer with this text
abbrev pub IsOfferPending : ℕ → List ℕ → Option Pending → Type 0
IsOfferPending room text None = Unit {0}
IsOfferPending room text (Some p) = p ≡ waiting.Offer (Offered room text)
