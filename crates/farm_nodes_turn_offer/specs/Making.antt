-- What a call that makes an offer of a pass leaves of the journal.
use Rattle.std.specs.Prelude.{ℕ, Bool, Option, Result}
use Rattle.durable_model.specs.declared.disk.Disk as disks
use Rattle.lang_base.specs.declared.language.Language as language
use Rattle.lang_base.specs.declared.pass.Pass as pass
use Rattle.offers.specs.declared.parts.Parts.{Parts}
use Rattle.offers.specs.Text.{text_of}
use Rattle.acceptor_log.specs.declared.log.Log.{Log}
use Rattle.acceptor_log.specs.Acknowledged.{WhileGoing}
use Rattle.rooms.specs.SeatValue.{SeatValue}
use Rattle.farm_nodes_turn_step.specs.declared.stop.Pending.{Pending}
use Rattle.farm_nodes_turn_offer.specs.declared.halt.Halt.{Halt}
use Rattle.farm_nodes_turn_offer.specs.Halted.{Recorded}
use Rattle.farm_nodes_turn_offer.specs.Offered.{IsOfferPending}
use Rattle.farm_nodes_turn_offer.specs.Pending.{IsOfferText}
use Rattle.farm_nodes_turn_offer.specs.Told.{IsOwnText}

module _ {P A B C I O : Type 0} (from : language.Ghosts A I) (to : language.Ghosts B O) (by : pass.Ghosts P A B C I O) where
  -- nothing is pending, or this offer with its text
  abbrev pub MayPend : ℕ → Parts I O C → Option Pending → Type 0
  MayPend room x pending = IsOfferPending room (text_of from to by x) pending

  -- of a journal that goes on, where the offer is made its record has its text
  abbrev pub TellsOffer : {D : Type 0} → disks.Ghosts D → Log D → Log D → ℕ → SeatValue (Parts I O C) → SeatValue (Parts I O C)
      → Result Bool Halt → Type 0
  TellsOffer disk old new room s t result =
      WhileGoing disk old (Recorded (IsOwnText (IsOfferText from to by) t) disk old new room s.words t.words result)
