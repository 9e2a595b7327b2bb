-- The parts that the offers among a node's records spell, of a pass from one language to another.
use Rattle.std.specs.Prelude.{◌≡◌, ℕ, List, Option, Some, None, All, map, slice_get}
use Rattle.lang_base.specs.declared.language.Language as language
use Rattle.lang_base.specs.declared.pass.Pass as pass
use Rattle.acceptor_log_form.specs.declared.record.Record.{Record}
use Rattle.offers.specs.declared.parts.Parts.{Parts}
use Rattle.offers.specs.Reading.{IsNoText}
use Rattle.offers.specs.Text.{text_of, PartsFit}
use Rattle.farm_nodes_turn_passes.specs.declared.which.Which.{Which}
use Rattle.farm_nodes_open_offers.specs.declared.storing.Stored.{Stored}
use Rattle.farm_nodes_open_offers.specs.Written.{all_written}

module _ {P A B C I O : Type 0} (from : language.Ghosts A I) (to : language.Ghosts B O) (by : pass.Ghosts P A B C I O) where
  -- they are those of the pass among the records: the room of each, and the parts that its text spells
  pub record IsStored (which : Which) (rs : List Record) (stored : Stored (Parts I O C)) : Type 0 where
    pub rooms : stored.rooms.items ≡ map (λ it. it.0) (all_written which rs)
    pub texts : map (text_of from to by) stored.parts.items ≡ map (λ it. it.1) (all_written which rs)
    pub fit : All (PartsFit from.fits to.fits by.cert_fits) stored.parts.items

  -- one of them is the text of no parts
  pub record HasNoParts (which : Which) (rs : List Record) : Type 0 where
    pub at : ℕ
    pub room : ℕ
    pub text : List ℕ
    pub stands : slice_get (all_written which rs) at ≡ Some (room, text)
    pub none : IsNoText from to by text

  -- the offer is that of the text, and there is one exactly where there is a text
  abbrev pub IsStoredText : Option (List ℕ) → Option (Parts I O C) → Type 0
  IsStoredText None None = Unit {0}
  IsStoredText None (Some x) = ⊥
  IsStoredText (Some text) None = ⊥
  IsStoredText (Some text) (Some x) = text ≡ text_of from to by x
