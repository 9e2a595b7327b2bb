-- The text of an offer of one pass, from one language to another, between two functions.
use Rattle.std.specs.Prelude.{◌≡◌, ◌≢◌, ℕ, List, Option, Some, None, IfSome}
use Rattle.lang_base.specs.declared.language.Language as language
use Rattle.lang_base.specs.declared.pass.Pass as pass
use Rattle.offers.specs.declared.parts.Parts.{Parts}
use Rattle.offers.specs.Text.{text_of, PartsFit}

-- the offer goes on from the function in front of it, where that is known
abbrev pub Begins : {I O C : Type 0} → Option I → Parts I O C → Type 0
Begins start offer = IfSome start (λ function. offer.input ≡ function)

-- its output, if it does
abbrev pub IsEnd : {I O C : Type 0} → Option I → Parts I O C → Option O → Type 0
IsEnd start offer None = Begins start offer → ⊥
IsEnd start offer (Some end) = Begins start offer × (end ≡ offer.output)

module _ {P A B C I O : Type 0} (from : language.Ghosts A I) (to : language.Ghosts B O) (by : pass.Ghosts P A B C I O) where
  -- the text is that of this offer, which goes on from the function in front of it
  pub record IsOf (start : Option I) (text : List ℕ) (offer : Parts I O C) : Type 0 where
    pub fits : PartsFit from.fits to.fits by.cert_fits offer
    pub spelled : text ≡ text_of from to by offer
    pub begins : Begins start offer

  -- it is the text of such an offer, and its output is the function behind it; where no text is known, none is known behind it
  abbrev pub IsStep : (start : Option I) → Option (List ℕ) → (end : Option O) → Type 0
  IsStep start None end = end ≡ None
  IsStep start (Some text) end = (offer : Parts I O C) × IsOf start text offer × (end ≡ Some offer.output)

  -- there is no such function behind the text, or this one and no other
  abbrev pub IsAnswered : (start : Option I) → Option (List ℕ) → Option (Option O) → Type 0
  IsAnswered start text None = (end : Option O) → IsStep start text end → ⊥
  IsAnswered start text (Some end) = IsStep start text end × ((other : Option O) → IsStep start text other → other ≡ end)
