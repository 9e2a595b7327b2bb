-- The offer that is learned again is the one that was learned before, since its text stands in its node's journal.
use Rattle.std.proofs.Common.{◌≡◌, ℕ, zero, suc, List, [], ◌∷◌, ◌++◌, length, Option, Some, None, refl, sym, ap, ◌∙◌, subst, arith}
use Rattle.std.specs.Prelude.{slice_get}
use Rattle.lang_base.specs.declared.language.Language as language
use Rattle.lang_base.specs.declared.pass.Pass as pass
use Rattle.offers.specs.Fronts.{HasOneText}
use Rattle.offers.specs.Text.{text_of, PartsFit}
use Rattle.farm_nodes_turn_offer.specs.Pending.{IsOfferText}
use Rattle.farm_nodes_turn_offer.specs.Told.{IsOwnText}
use Rattle.farm_nodes_turn_passes.specs.SeatValue.{SeatValue, offer_of}
use Rattle.farm_nodes_meet_seats.specs.Learned.{learned_offer}
use Rattle.farm_nodes_meet_seats.proofs.Seen.{learned_at}
use Rattle.farm_nodes_turn_node.specs.Offers.{ConstantsOffer, ExpressionsOffer, AllocationOffer, OrderOffer}
use Rattle.farm_nodes_link.specs.Learned.{FourOffers, IsUndecided, all_four}
use Rattle.cfarm_build_crash.specs.Later.{SeesText}

-- no two offers that fit share a text
abbrev pub AreToldApart : {T : Type 0} → (List ℕ → T → Type 0) → Type 0
AreToldApart {T} IsText = (text : List ℕ) (x y : T) → IsText text x → IsText text y → x ≡ y

pub told_apart : {P A B C I O : Type 0} (from : language.Ghosts A I) (to : language.Ghosts B O) (by : pass.Ghosts P A B C I O)
    → HasOneText (PartsFit from.fits to.fits by.cert_fits) (text_of from to by) → AreToldApart (IsOfferText from to by)
told_apart from to by one text x y is are = (one x y [] [] is.fits are.fits (ap (λ t. t ++ []) (sym is.text ∙ are.text))).0

pub same_some : {A : Type 0} (o : Option A) (x y : A) → o ≡ Some x → o ≡ Some y → x ≡ y
same_some o x y e f = let same : Some x ≡ Some y = sym e ∙ f in cc

-- a seat of the node whose offer was learned, and one in the room that opened again, where the same number is learned
module _ {T : Type 0} (IsText : List ℕ → T → Type 0) (apart : AreToldApart IsText) (w later : SeatValue T) (v u : ℕ) (text : List ℕ)
    (learned : w.words.node.learned ≡ Some v) (again : later.words.node.learned ≡ Some u) (same : v ≡ u) (me : w.words.node.me ≡ v)
    (own : IsOwnText IsText w text) (sees : SeesText IsText later v text) where
  pub same_offer : (x y : T) → learned_offer w ≡ Some x → learned_offer later ≡ Some y → y ≡ x
  same_offer x y ex ey =
      let a = learned_at w w.words.node.learned x ex in
      let b = learned_at later later.words.node.learned y ey in
      let v_is : a.value ≡ v = same_some w.words.node.learned a.value v a.learned learned in
      let u_is : b.value ≡ v = same_some later.words.node.learned b.value u b.learned again ∙ sym same in
      let own_x : own.0 ≡ x = same_some (offer_of w w.words.node.me) own.0 x own.1 (subst (λ k. offer_of w k ≡ Some x) (v_is ∙ sym me) a.seen) in
      apart text y x (sees y (subst (λ k. offer_of later k ≡ Some y) u_is b.seen)) (subst (λ z. IsText text z) own_x own.2)

-- ---- the four of a function

pub record AreFour (a : Option ConstantsOffer) (b : Option ExpressionsOffer) (c : Option AllocationOffer) (d : Option OrderOffer) (all : FourOffers) : Type 0 where
  pub constants : a ≡ Some all.constants
  pub expressions : b ≡ Some all.expressions
  pub allocation : c ≡ Some all.allocation
  pub order : d ≡ Some all.order

pub are_four : (a : Option ConstantsOffer) (b : Option ExpressionsOffer) (c : Option AllocationOffer) (d : Option OrderOffer) (all : FourOffers)
    → all_four a b c d ≡ Some all → AreFour a b c d all
are_four None b c d all e = absurd (cc e)
are_four (Some w) None c d all e = absurd (cc e)
are_four (Some w) (Some x) None d all e = absurd (cc e)
are_four (Some w) (Some x) (Some y) None all e = absurd (cc e)
are_four (Some w) (Some x) (Some y) (Some z) all e =
    let same : record { constants = w; expressions = x; allocation = y; order = z } ≡ all = same_some _ _ all refl e in
    record {
      constants = ap (λ (o : FourOffers). Some o.constants) same;
      expressions = ap (λ (o : FourOffers). Some o.expressions) same;
      allocation = ap (λ (o : FourOffers). Some o.allocation) same;
      order = ap (λ (o : FourOffers). Some o.order) same;
    }

-- what is learned of a function, where none is undecided
pub decided_at : (learned : List (Option FourOffers)) → (IsUndecided learned → ⊥) → (f : ℕ) (o : Option FourOffers) → slice_get learned f ≡ Some o
    → (all : FourOffers) × (o ≡ Some all)
decided_at learned all f None e = absurd (all (record { function = f; wanting = e }))
decided_at learned all f (Some offers) e = (offers, refl)

pub equal_lists : {A : Type 0} (xs ys : List A) → length xs ≡ length ys → ((k : ℕ) (a b : A) → slice_get xs k ≡ Some a → slice_get ys k ≡ Some b → a ≡ b) → xs ≡ ys
equal_lists [] [] long same = refl
equal_lists [] (y ∷ ys) long same = absurd (omega (arith, long))
equal_lists (x ∷ xs) [] long same = absurd (omega (arith, long))
equal_lists (x ∷ xs) (y ∷ ys) long same =
    let head : x ≡ y = same zero x y refl refl in
    let tail : xs ≡ ys = equal_lists xs ys (omega (arith, long)) (λ k a b ea eb. same (suc k) a b ea eb) in
    λ i. head i ∷ tail i
