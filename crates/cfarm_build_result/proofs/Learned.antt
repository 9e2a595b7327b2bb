-- Offers that are learned, their texts, and the program that they link.
use Rattle.std.proofs.Common.{◌≡◌, ℕ, zero, suc, List, [], ◌∷◌, ◌++◌, length, map, take, All, Option, Some, None, Result, Ok, Err, refl, ap, ◌∙◌, subst}
use Rattle.std.specs.Prelude.{IfOk, IsSome, slice_get}
use Rattle.std.specs.List.{AllByRecursion}
use Rattle.std.proofs.lemmas.List.Elements.{All-nil, All-cons}
use Rattle.lang_base.specs.declared.program.Named.{Named}
use Rattle.lang_base.specs.declared.program.Program.{Program}
use Rattle.rtl_language.specs.Function as rtl
use Rattle.bundle_offers.specs.Offers.{Offers}
use Rattle.bundle_offers.specs.Accepted.{AreAccepted}
use Rattle.bundle_offers.specs.Lent.{Chain}
use Rattle.bundle_offers.specs.Offered as chained
use Rattle.bundle_form.specs.declared.bundle.Texts.{Texts}
use Rattle.bundle_form.specs.Form.{IsBundle, TextsFit, bundle_text}
use Rattle.bundle_offers.specs.LentOffers.{lent_offers}
use Rattle.bundle_offers.specs.Linking.{BundleLinks}
use Rattle.bundle_offers.specs.Texts.{texts_of, OffersFit, IsBundleOf, bundle_with}
use Rattle.farm_nodes_link.specs.Learned.{FourOffers}
use Rattle.farm_nodes_link.specs.Lent as lending
use Rattle.farm_nodes_link.specs.Offered.{linked_offers, ends_of, AllGoOn}
use Rattle.cfarm_build_result.specs.Bundled.{offers_in, offers_of, AreTexts, AreTextsAt, AreTextsOf, LinksLearned}

-- offers that are lent are those that are learned
pub texts_lent : (o : Option FourOffers) (chain : Chain) (t : Texts) → lending.lent (Some chain) ≡ o → AreTexts (lent_offers chain) t → AreTextsAt o t
texts_lent o chain t e are = subst (λ p. AreTextsAt p t) e are

-- none is lent where none is learned
pub none_lent : (o : Option FourOffers) → None ≡ o → IsSome o → ⊥
none_lent None e some = cc some
none_lent (Some four) e some = absurd (cc e)

-- what is answered of offers that are lent is answered of those that are learned
pub texts_told : {E : Type 0} (o : Option FourOffers) (chain : Chain) (told : Result Texts E) → lending.lent (Some chain) ≡ o
    → IfOk told (λ t. t ≡ texts_of (lent_offers chain)) → IfOk told TextsFit → AreAccepted (lent_offers chain) → OffersFit (lent_offers chain) → IfOk told (AreTextsAt o)
texts_told o chain (Ok t) e text blocks accepted fit = texts_lent o chain t e (record { text = text; blocks = blocks; fit = fit; accepted = accepted })
texts_told o chain (Err fault) e text blocks accepted fit = tt

-- ---- function by function

pub texts_next : (learned : List (Option FourOffers)) (ts : List Texts) (n : ℕ) (o : Option FourOffers) (t : Texts) → slice_get learned n ≡ Some o → AreTextsOf (take n learned) ts
    → AreTextsAt o t → AreTextsOf (take (suc n) learned) (ts ++ t ∷ [])
texts_next [] ts n o t here are is = absurd (cc here)
texts_next (x ∷ learned) [] zero o t here are is = let same : o ≡ x = cc here in (subst (λ p. AreTextsAt p t) same is, tt)
texts_next (x ∷ learned) (y ∷ ts) zero o t here are is = absurd are
texts_next (x ∷ learned) [] (suc n) o t here are is = absurd are
texts_next (x ∷ learned) (y ∷ ts) (suc n) o t here are is = (are.0, texts_next learned ts n o t here are.1 is)

module _ where
  pub all_blocks : (learned : List (Option FourOffers)) (ts : List Texts) → AreTextsOf learned ts → AllByRecursion TextsFit ts
  all_blocks [] [] are = tt
  all_blocks [] (t ∷ ts) are = absurd are
  all_blocks (o ∷ learned) [] are = absurd are
  all_blocks (None ∷ learned) (t ∷ ts) are = absurd are.0
  all_blocks (Some four ∷ learned) (t ∷ ts) are = (are.0.blocks, all_blocks learned ts are.1)

  pub as_many : (learned : List (Option FourOffers)) (ts : List Texts) → AreTextsOf learned ts → length ts ≡ length learned
  as_many [] [] are = refl
  as_many [] (t ∷ ts) are = absurd are
  as_many (o ∷ learned) [] are = absurd are
  as_many (o ∷ learned) (t ∷ ts) are = ap suc (as_many learned ts are.1)

  are_texts : (learned : List (Option FourOffers)) (ts : List Texts) → AreTextsOf learned ts → ts ≡ map texts_of (offers_in learned)
  are_texts [] [] are = refl
  are_texts [] (t ∷ ts) are = absurd are
  are_texts (o ∷ learned) [] are = absurd are
  are_texts (None ∷ learned) (t ∷ ts) are = absurd are.0
  are_texts (Some four ∷ learned) (t ∷ ts) are = λ i. are.0.text i ∷ are_texts learned ts are.1 i

  all_fit : (learned : List (Option FourOffers)) (ts : List Texts) → AreTextsOf learned ts → AllByRecursion OffersFit (offers_in learned)
  all_fit [] [] are = tt
  all_fit [] (t ∷ ts) are = absurd are
  all_fit (o ∷ learned) [] are = absurd are
  all_fit (None ∷ learned) (t ∷ ts) are = absurd are.0
  all_fit (Some four ∷ learned) (t ∷ ts) are = (are.0.fit, all_fit learned ts are.1)

  all_passed : (learned : List (Option FourOffers)) (ts : List Texts) → AreTextsOf learned ts → All AreAccepted (offers_in learned)
  all_passed [] [] are = All-nil _
  all_passed [] (t ∷ ts) are = absurd are
  all_passed (o ∷ learned) [] are = absurd are
  all_passed (None ∷ learned) (t ∷ ts) are = absurd are.0
  all_passed (Some four ∷ learned) (t ∷ ts) are = All-cons AreAccepted (offers_of four) (offers_in learned) are.0.accepted (all_passed learned ts are.1)

-- they go on, and link the same program
goes_on : (fs : List (Named rtl.FunctionData)) (learned : List (Option FourOffers)) → AllGoOn fs learned → chained.AllGoOn fs (offers_in learned)
goes_on [] [] all = tt
goes_on [] (o ∷ learned) all = absurd all
goes_on (f ∷ fs) [] all = absurd all
goes_on (f ∷ fs) (None ∷ learned) all = absurd all.0
goes_on (f ∷ fs) (Some four ∷ learned) all =
    (record { constants = all.0.constants; expressions = all.0.expressions; allocation = all.0.allocation; order = all.0.order }, goes_on fs learned all.1)

same_ends : (fs : List (Named rtl.FunctionData)) (learned : List (Option FourOffers)) → AllGoOn fs learned → ends_of fs learned ≡ chained.ends_of fs (offers_in learned)
same_ends [] [] all = refl
same_ends [] (o ∷ learned) all = absurd all
same_ends (f ∷ fs) [] all = absurd all
same_ends (f ∷ fs) (None ∷ learned) all = absurd all.0
same_ends (f ∷ fs) (Some four ∷ learned) all = ap (λ rest. record { name = f.name; function = four.order.output } ∷ rest) (same_ends fs learned all.1)

-- ---- the bundle

module _ (bytes digest : List ℕ) (learned : List (Option FourOffers)) (ts : List Texts) (are : AreTextsOf learned ts)
    (form : IsBundle (record { digest = digest; functions = ts })) (text : bytes ≡ bundle_text (record { digest = digest; functions = ts })) where
  pub is_bundle : IsBundleOf bytes digest (offers_in learned)
  is_bundle =
      let same = are_texts learned ts are in
      record {
        form = subst (λ l. IsBundle (record { digest = digest; functions = l })) same form;
        fit = all_fit learned ts are;
        text = text ∙ ap (λ l. bundle_text (record { digest = digest; functions = l })) same;
      }

  pub links_learned : LinksLearned bytes digest learned
  links_learned begun all = record {
    offers = offers_in learned;
    bundled = is_bundle;
    chained = goes_on begun.functions learned all;
    passed = all_passed learned ts are;
    linked = ap (λ fs. record { globals = begun.globals; functions = fs }) (same_ends begun.functions learned all);
  }
