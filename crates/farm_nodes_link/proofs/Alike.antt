-- Two nodes that hold the same offers link one program, and keep what they have learned when they meet others.
use Rattle.std.proofs.Common.{◌≡◌, ℕ, zero, suc, ◌<◌, List, [], ◌∷◌, length, map, get_or, Option, Some, None, refl, sym, ap, subst, ◌∙◌, arith}
use Rattle.std.specs.Prelude.{slice_get, IsSome}
use Rattle.std.proofs.lemmas.Option.{slice_get-get_or, slice_get_within}
use Rattle.lang_base.specs.declared.program.Program.{Program}
use Rattle.rooms_hall.specs.declared.hall.Naming as naming
use Rattle.rtl_language.specs.Function as rtl
use Rattle.farm_nodes_meet_seats.specs.Offers.{ConstantsOffer, ExpressionsOffer, AllocationOffer, OrderOffer}
use Rattle.farm_nodes_meet_seats.specs.NumberedSeat.{NumberedSeat}
use Rattle.farm_nodes_meet_seats.specs.Functions.{BothLink, HoldSameOffers}
use Rattle.farm_nodes_meet_seats.specs.Held.{held_of}
use Rattle.farm_nodes_meet_seats.proofs.Places.{all_link, same_code}
use Rattle.farm_nodes_link.specs.Alike.{HaveCounted, HaveCountedAll, KeepsLearned, LinkOne}
use Rattle.farm_nodes_link.specs.Learned.{FourOffers, all_four, learned_four, learned_by, IsUndecided}
use Rattle.farm_nodes_link.specs.Offered.{linked_offers}
use Rattle.farm_nodes_link.proofs.Going.{go_nowhere}

one_item : {S : Type 0} (o : Option S) (x y : S) → o ≡ Some x → o ≡ Some y → x ≡ y
one_item o x y e e' = cc

equal_lists : {S : Type 0} (xs ys : List S) → length xs ≡ length ys
    → ((k : ℕ) (a b : S) → slice_get xs k ≡ Some a → slice_get ys k ≡ Some b → a ≡ b) → xs ≡ ys
equal_lists [] [] long same = refl
equal_lists [] (y ∷ ys) long same = absurd (omega (arith, long))
equal_lists (x ∷ xs) [] long same = absurd (omega (arith, long))
equal_lists (x ∷ xs) (y ∷ ys) long same =
    let head : x ≡ y = same zero x y refl refl in
    let tail : xs ≡ ys = equal_lists xs ys (omega (arith, long)) (λ k a b ea eb. same (suc k) a b ea eb) in
    λ i. head i ∷ tail i

pub keeps_none : (learned : List (Option FourOffers)) → KeepsLearned learned learned
keeps_none learned = record { count = refl; each = λ k offers e. e }

pub keeps_through : (xs ys zs : List (Option FourOffers)) → KeepsLearned xs ys → KeepsLearned ys zs → KeepsLearned xs zs
keeps_through xs ys zs one two = record { count = two.count ∙ one.count; each = λ k offers e. two.each k offers (one.each k offers e) }

equal_maps : {S T : Type 0} (v : S → T) (xs ys : List S) → length xs ≡ length ys
    → ((k : ℕ) (a b : S) → slice_get xs k ≡ Some a → slice_get ys k ≡ Some b → v a ≡ v b) → map v xs ≡ map v ys
equal_maps v [] [] long same = refl
equal_maps v [] (y ∷ ys) long same = absurd (omega (arith, long))
equal_maps v (x ∷ xs) [] long same = absurd (omega (arith, long))
equal_maps v (x ∷ xs) (y ∷ ys) long same =
    let head : v x ≡ v y = same zero x y refl refl in
    let tail : map v xs ≡ map v ys = equal_maps v xs ys (omega (arith, long)) (λ k a b ea eb. same (suc k) a b ea eb) in
    λ i. head i ∷ tail i

found : {S T : Type 0} (v : S → Option T) (xs : List S) (k : ℕ) → slice_get (map v xs) k ≡ Some None → (a : S) × (slice_get xs k ≡ Some a) × (v a ≡ None)
found v [] k e = absurd (cc e)
found v (x ∷ xs) zero e = (x, refl, cc e)
found v (x ∷ xs) (suc k) e = found v xs k e

none_wanting : (a : Option ConstantsOffer) (b : Option ExpressionsOffer) (c : Option AllocationOffer) (d : Option OrderOffer)
    → IsSome a → IsSome b → IsSome c → IsSome d → all_four a b c d ≡ None → ⊥
none_wanting None b c d sa sb sc sd e = absurd (cc sa)
none_wanting (Some w) None c d sa sb sc sd e = absurd (cc sb)
none_wanting (Some w) (Some x) None d sa sb sc sd e = absurd (cc sc)
none_wanting (Some w) (Some x) (Some y) None sa sb sc sd e = absurd (cc sd)
none_wanting (Some w) (Some x) (Some y) (Some z) sa sb sc sd e = absurd (cc e)

module _ {H : Type 0} {h : naming.Ghosts H} (xs ys : List (NumberedSeat H h)) (counted : HaveCountedAll xs ys) where
  as_long : length xs ≡ length ys
  as_long = let met = counted.met.met counted.alike in met.first ∙ counted.alike ∙ sym met.second

  link_at : (k : ℕ) (a b : NumberedSeat H h) → slice_get xs k ≡ Some a → slice_get ys k ≡ Some b → BothLink (held_of a) (held_of b)
  link_at k a b ea eb =
      let within : k < length xs = slice_get_within xs k a ea in
      all_link held_of counted.first counted.second xs ys (length counted.first) counted.met counted.alike refl k (omega (arith, within, (counted.met.met counted.alike).first)) a b ea eb

  same_at : (k : ℕ) (a b : NumberedSeat H h) → slice_get xs k ≡ Some a → slice_get ys k ≡ Some b → learned_four a ≡ learned_four b
  same_at k a b ea eb =
      let hold : HoldSameOffers (held_of a) (held_of b) =
      same_code held_of counted.first counted.second xs ys (length counted.first) counted.met counted.alike k (λ a' b' ea' eb'. link_at k a' b' ea' eb') a b ea eb in
      λ i. all_four (hold.constants i) (hold.expressions i) (hold.allocation i) (hold.order i)

  same_learned : learned_by xs ≡ learned_by ys
  same_learned = equal_maps learned_four xs ys as_long same_at

  decided : IsUndecided (learned_by xs) → ⊥
  decided is =
      let at = found learned_four xs is.function is.wanting in
      let within : is.function < length xs = slice_get_within xs is.function at.0 at.1 in
      let there : slice_get ys is.function ≡ Some (get_or ys is.function at.0) = slice_get-get_or ys is.function at.0 (omega (arith, within, as_long)) in
      let link : BothLink (held_of at.0) (held_of (get_or ys is.function at.0)) = link_at is.function at.0 (get_or ys is.function at.0) at.1 there in
      none_wanting _ _ _ _ link.constants.first link.expressions.first link.allocation.first link.order.first at.2

-- where all is learned, and is learned still, nothing else is
module _ (old new : List (Option FourOffers)) (keeps : KeepsLearned old new) (all : IsUndecided old → ⊥) where
  still_at : (k : ℕ) (o p : Option FourOffers) → slice_get old k ≡ Some o → slice_get new k ≡ Some p → o ≡ p
  still_at k None p eo ep = absurd (all (record { function = k; wanting = eo }))
  still_at k (Some offers) p eo ep = one_item (slice_get new k) (Some offers) p (keeps.each k offers eo) ep

  pub still : new ≡ old
  still = sym (equal_lists old new (sym keeps.count) still_at)

module _ {H : Type 0} {h : naming.Ghosts H} (xs ys : List (NumberedSeat H h)) where
  pub counted_now : HaveCountedAll xs ys → HaveCounted xs ys
  counted_now counted = record {
    first = xs;
    second = ys;
    counted = counted;
    first_on = go_nowhere xs;
    second_on = go_nowhere ys;
    first_keeps = keeps_none (learned_by xs);
    second_keeps = keeps_none (learned_by ys);
  }

  module _ (met : HaveCounted xs ys) where
    same_first : learned_by xs ≡ learned_by met.first
    same_first = still (learned_by met.first) (learned_by xs) met.first_keeps (decided met.first met.second met.counted)

    same_second : learned_by ys ≡ learned_by met.second
    same_second = still (learned_by met.second) (learned_by ys) met.second_keeps
        (λ is. decided met.first met.second met.counted (subst (λ l. IsUndecided l) (sym (same_learned met.first met.second met.counted)) is))

    pub one_learned : learned_by xs ≡ learned_by ys
    one_learned = same_first ∙ (same_learned met.first met.second met.counted ∙ sym same_second)

    pub none_undecided : IsUndecided (learned_by xs) → ⊥
    none_undecided is = decided met.first met.second met.counted (subst (λ l. IsUndecided l) same_first is)

pub link_one : {H : Type 0} {h : naming.Ghosts H} (program : Program rtl.FunctionData) (xs ys : List (NumberedSeat H h)) → HaveCounted xs ys → LinkOne program xs ys
link_one program xs ys met =
    let same : learned_by xs ≡ learned_by ys = one_learned xs ys met in
    record {
      first = none_undecided xs ys met;
      second = λ is. none_undecided xs ys met (subst (λ l. IsUndecided l) (sym same) is);
      same = same;
      one = λ p q e e'. e ∙ (ap (λ l. linked_offers program l) same ∙ sym e');
    }
