-- The bundle of offers that a node has learned.
use Rattle.std.specs.Prelude.{◌≡◌, ℕ, List, [], ◌∷◌, Option, Some, None}
use Rattle.lang_base.specs.declared.program.Program.{Program}
use Rattle.rtl_language.specs.Function as rtl
use Rattle.bundle_offers.specs.Offers.{Offers}
use Rattle.bundle_offers.specs.Accepted.{AreAccepted}
use Rattle.bundle_form.specs.declared.bundle.Texts.{Texts}
use Rattle.bundle_form.specs.Form.{TextsFit}
use Rattle.bundle_offers.specs.Linking.{BundleLinks}
use Rattle.bundle_offers.specs.Texts.{texts_of, OffersFit}
use Rattle.farm_nodes_link.specs.Learned.{FourOffers}
use Rattle.farm_nodes_link.specs.Offered.{linked_offers, AllGoOn}

-- the same four offers
abbrev pub offers_of : FourOffers → Offers
offers_of four = record { constants = four.constants; expressions = four.expressions; allocation = four.allocation; order = four.order }

-- those of each function of which all four are learned
abbrev pub offers_in : List (Option FourOffers) → List Offers
offers_in [] = []
offers_in (None ∷ learned) = offers_in learned
offers_in (Some four ∷ learned) = offers_of four ∷ offers_in learned

-- the texts of accepted offers
pub record AreTexts (offers : Offers) (texts : Texts) : Type 0 where
  pub text : texts ≡ texts_of offers
  pub blocks : TextsFit texts
  pub fit : OffersFit offers
  pub accepted : AreAccepted offers

abbrev pub AreTextsAt : Option FourOffers → Texts → Type 0
AreTextsAt None texts = ⊥
AreTextsAt (Some four) texts = AreTexts (offers_of four) texts

-- function by function
abbrev pub AreTextsOf : List (Option FourOffers) → List Texts → Type 0
AreTextsOf [] [] = Unit {0}
AreTextsOf [] (t ∷ texts) = ⊥
AreTextsOf (o ∷ learned) [] = ⊥
AreTextsOf (o ∷ learned) (t ∷ texts) = AreTextsAt o t × AreTextsOf learned texts

-- the bundle is that of what the offers link, wherever they go on from
abbrev pub LinksLearned : List ℕ → List ℕ → List (Option FourOffers) → Type 0
LinksLearned bytes digest learned =
    (begun : Program rtl.FunctionData) → AllGoOn begun.functions learned → BundleLinks bytes digest begun (linked_offers begun learned)
