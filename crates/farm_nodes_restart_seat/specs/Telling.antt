-- What an answer tells of an offer's text, and an offer that is made again of one.
use Rattle.std.specs.Prelude.{◌↔◌, ℕ, Bool, IsTrue, List, Result, IfOk}
use Rattle.lang_base.specs.declared.language.Language as language
use Rattle.lang_base.specs.declared.pass.Pass as pass
use Rattle.acceptor_log_form.specs.declared.record.Record.{Record}
use Rattle.offers.specs.declared.parts.Parts.{Parts}
use Rattle.farm_nodes_turn_offer.specs.SeatValue.{SeatValue}
use Rattle.farm_nodes_turn_offer.specs.Offered.{PutsOffer}
use Rattle.farm_nodes_turn_offer.specs.Pending.{IsOfferText}
use Rattle.farm_nodes_restart_seat.specs.Taken.{TookOffer}

-- where there is an answer, it tells whether this is so
abbrev pub TellsWhether : {E : Type 0} → Type 0 → Result Bool E → Type 0
TellsWhether This result = IfOk result (λ told. IsTrue told ↔ This)

module _ {P A B C I O : Type 0} (from : language.Ghosts A I) (to : language.Ghosts B O) (by : pass.Ghosts P A B C I O) where
  -- the offer of this pass that the bytes are the text of stands in its cell
  abbrev pub LaysOffer : List ℕ → SeatValue (Parts I O C) → SeatValue (Parts I O C) → Type 0
  LaysOffer bytes old new = (x : Parts I O C) × IsOfferText from to by bytes x × PutsOffer x old new

  -- so it is of the text in this record of the room
  abbrev pub OffersAgain : ℕ → Record → SeatValue (Parts I O C) → SeatValue (Parts I O C) → Type 0
  OffersAgain room r old new = TookOffer (IsOfferText from to by) room r old new
