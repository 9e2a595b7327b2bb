-- An offer that a node is about to make.
use Rattle.std.specs.Prelude.{◌≡◌, ℕ, false}
use Rattle.lang_base.specs.declared.language.Language as language
use Rattle.lang_base.specs.declared.pass.Pass as pass
use Rattle.offers.specs.declared.parts.Parts.{Parts}
use Rattle.offers.specs.Text.{text_of}
use Rattle.acceptor_log_form.specs.declared.record.Record.{Record}
use Rattle.acceptor_log_form.specs.declared.record.Record.TheVariants.{Offered}
use Rattle.farm_nodes_turn_offer.specs.Pending.{IsOfferText}
use Rattle.farm_nodes_turn_offer.specs.SeatValue.{SeatValue}
use Rattle.farm_nodes_sweep_step.specs.Staged.{MayStep}

module _ {P A B C I O : Type 0} (from : language.Ghosts A I) (to : language.Ghosts B O) (by : pass.Ghosts P A B C I O) where
  -- The node has made none in the room. The pass accepts the offer x; the record has its text, and may be put down.
  pub record IsOfferOf (room : ℕ) (s : SeatValue (Parts I O C)) (r : Record) (x : Parts I O C) : Type 0 where
    pub first : s.words.node.kept.offered ≡ false
    pub told : IsOfferText from to by (text_of from to by x) x
    pub entry : r ≡ Offered room (text_of from to by x)
    pub may : MayStep room s.words r

  -- the same of what holds the offer
  abbrev pub IsOfferHeld : {S : Type 0} → (S → Parts I O C) → ℕ → SeatValue (Parts I O C) → Record → S → Type 0
  IsOfferHeld value room s r b = IsOfferOf room s r (value b)
