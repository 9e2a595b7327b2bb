-- What a halted node may have pending in a room.
use Rattle.std.specs.Prelude.{◌≡◌, ℕ, false, List, Option, Some, None}
use Rattle.lang_base.specs.declared.language.Language as language
use Rattle.lang_base.specs.declared.pass.Pass as pass
use Rattle.offers.specs.declared.parts.Parts.{Parts}
use Rattle.offers.specs.Text.{text_of, PartsFit}
use Rattle.acceptor_log_form.specs.declared.record.Record.{Record}
use Rattle.acceptor_log_form.specs.declared.record.Record.TheVariants.{Offered}
use Rattle.farm_nodes_turn_step.specs.SeatState.{SeatState}
use Rattle.farm_nodes_turn_step.specs.Would.{IsAmong}
use Rattle.rooms.specs.SeatValue.{SeatValue}
use Rattle.farm_nodes_turn_step.specs.declared.stop.Pending.{Pending}
use Rattle.farm_nodes_turn_step.specs.declared.stop.Pending.TheVariants.{Act, Offer}

-- these bytes are the text of this offer, which the pass accepts
pub record IsOfferText {P A B C I O : Type 0} (from : language.Ghosts A I) (to : language.Ghosts B O)
    (by : pass.Ghosts P A B C I O) (bytes : List ℕ) (x : Parts I O C) : Type 0 where
  pub fits : PartsFit from.fits to.fits by.cert_fits x
  pub accepted : by.accepts x.input x.output x.certificate
  pub text : bytes ≡ text_of from to by x

-- what it asks, it asks of a node of the room
abbrev pub IsAsked : SeatState → Pending → Type 0
IsAsked s (Act a) = IsAmong s.node.quorums.nodes a
IsAsked s (Offer r) = Unit {0}

module _ {T : Type 0} (IsText : List ℕ → T → Type 0) (room : ℕ) where
  -- the record is of an offer, which is not made yet
  abbrev pub IsOfferLeft : SeatValue T → Record → Type 0
  IsOfferLeft s r =
      (s.words.node.kept.offered ≡ false) × (x : T) × (bytes : List ℕ) × (r ≡ Offered room bytes) × IsText bytes x

  -- it may be pending with this seat
  abbrev pub IsPendingOn : SeatValue T → Pending → Type 0
  IsPendingOn s (Act a) = IsAmong s.words.node.quorums.nodes a
  IsPendingOn s (Offer r) = IsOfferLeft s r

  -- the same, where something is
  abbrev pub MayPendOn : SeatValue T → Option Pending → Type 0
  MayPendOn s None = Unit {0}
  MayPendOn s (Some p) = IsPendingOn s p
