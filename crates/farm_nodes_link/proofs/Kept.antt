-- A meeting leaves what each of the two had learned.
use Rattle.std.proofs.Common.{◌≡◌, ℕ, zero, suc, ◌<◌, List, [], ◌∷◌, map, length, Option, Some, None, refl, sym, ap, subst, ◌∙◌, arith, inl, inr}
use Rattle.std.specs.Prelude.{cond, nat_lt, option_map, slice_get}
use Rattle.std.proofs.lemmas.Bool.{cases_eq}
use Rattle.std.proofs.lemmas.List.{length-map}
use Rattle.std.proofs.lemmas.Option.{slice_get-map, slice_get_within}
use Rattle.rooms_hall.specs.declared.hall.Naming as naming
use Rattle.rooms_cells.specs.Seen.{value_at}
use Rattle.farm_nodes_meet_seats.specs.SeatValue.{SeatValue, offer_of}
use Rattle.farm_nodes_meet_seats.specs.Meeting.{Remains}
use Rattle.farm_nodes_meet_seats.specs.Offers.{ConstantsOffer, ExpressionsOffer, AllocationOffer, OrderOffer}
use Rattle.farm_nodes_meet_seats.specs.Learned.{learned_offer, offer_learned}
use Rattle.farm_nodes_meet_seats.specs.NumberedSeat.{NumberedSeat}
use Rattle.farm_nodes_meet_seats.specs.Held.{held_of}
use Rattle.farm_nodes_meet_seats.specs.Lists.{HaveMetAll}
use Rattle.farm_nodes_link.specs.Alike.{KeepsLearned}
use Rattle.farm_nodes_link.specs.Learned.{FourOffers, all_four, learned_four, learned_by}
use Rattle.farm_nodes_link.proofs.Alike.{keeps_none}

-- what one seat has learned and seen
module _ {T : Type 0} (s t : SeatValue T) (remains : Remains s.words t.words) (sights : t.sights ≡ s.sights) where
  learned_in : (l l' : Option ℕ) (x : T) → ((v : ℕ) → l ≡ Some v → l' ≡ Some v) → offer_learned s l ≡ Some x → offer_learned t l' ≡ Some x
  learned_in None l' x stays is = absurd (cc is)
  learned_in (Some v) l' x stays is =
      let seen : offer_of t v ≡ offer_of s v = λ i. value_at (sights i) v in
      let count : nat_lt v t.words.node.quorums.nodes ≡ nat_lt v s.words.node.quorums.nodes = λ i. nat_lt v (remains.quorums i).nodes in
      ap (λ l. offer_learned t l) (stays v refl) ∙ ((λ i. cond (count i) (seen i) None) ∙ is)

  still_offer : (x : T) → learned_offer s ≡ Some x → learned_offer t ≡ Some x
  still_offer x is = learned_in s.words.node.learned t.words.node.learned x remains.learned is

-- all four of a function
four : (a b : Option ConstantsOffer) (c d : Option ExpressionsOffer) (e f : Option AllocationOffer) (i j : Option OrderOffer) (offers : FourOffers)
    → ((x : ConstantsOffer) → a ≡ Some x → b ≡ Some x) → ((x : ExpressionsOffer) → c ≡ Some x → d ≡ Some x)
    → ((x : AllocationOffer) → e ≡ Some x → f ≡ Some x) → ((x : OrderOffer) → i ≡ Some x → j ≡ Some x)
    → all_four a c e i ≡ Some offers → all_four b d f j ≡ Some offers
four None b c d e f i j offers p q r s is = absurd (cc is)
four (Some w) b None d e f i j offers p q r s is = absurd (cc is)
four (Some w) b (Some x) d None f i j offers p q r s is = absurd (cc is)
four (Some w) b (Some x) d (Some y) f None j offers p q r s is = absurd (cc is)
four (Some w) b (Some x) d (Some y) f (Some z) j offers p q r s is =
    let ew : b ≡ Some w = p w refl in
    let ex : d ≡ Some x = q x refl in
    let ey : f ≡ Some y = r y refl in
    let ez : j ≡ Some z = s z refl in
    (λ k. all_four (ew k) (ex k) (ey k) (ez k)) ∙ is

-- what is at a place
there : {S : Type 0} (xs : List S) (k : ℕ) → k < length xs → (a : S) × (slice_get xs k ≡ Some a)
there [] k below = absurd (omega (arith, below))
there (x ∷ xs) zero below = (x, refl)
there (x ∷ xs) (suc k) below = there xs k (omega (arith, below))

mapped : {S T : Type 0} (v : S → T) (xs : List S) (k : ℕ) (o : T) → slice_get (map v xs) k ≡ Some o → (a : S) × (slice_get xs k ≡ Some a) × (v a ≡ o)
mapped v [] k o e = absurd (cc e)
mapped v (x ∷ xs) zero o e = (x, refl, cc e)
mapped v (x ∷ xs) (suc k) o e = mapped v xs k o e

at : {S T : Type 0} (v : S → T) (xs : List S) (k : ℕ) (a : S) → slice_get xs k ≡ Some a → slice_get (map v xs) k ≡ Some (v a)
at v xs k a e = slice_get-map v xs k ∙ ap (λ o. option_map v o) e

module _ {H : Type 0} {h : naming.Ghosts H} where
  -- all functions, one by one
  keeps_each : (xs xs' : List (NumberedSeat H h)) → length xs' ≡ length xs
      → ((k : ℕ) (a a' : NumberedSeat H h) → slice_get xs k ≡ Some a → slice_get xs' k ≡ Some a' → (offers : FourOffers) → learned_four a ≡ Some offers → learned_four a' ≡ Some offers)
      → KeepsLearned (learned_by xs) (learned_by xs')
  keeps_each xs xs' long one = record {
    count = length-map xs' learned_four ∙ (long ∙ sym (length-map xs learned_four));
    each = λ k offers e.
        let old = mapped learned_four xs k (Some offers) e in
        let within : k < length xs = slice_get_within xs k old.0 old.1 in
        let new = there xs' k (omega (arith, within, long)) in
        at learned_four xs' k new.0 new.1 ∙ ap (λ o. Some o) (one k old.0 new.0 old.1 new.1 offers old.2);
  }

  module _ (xs ys xs' ys' : List (NumberedSeat H h)) (count : ℕ) (met : HaveMetAll xs ys xs' ys' count held_of) where
    pub first_keeps : KeepsLearned (learned_by xs) (learned_by xs')
    first_keeps = elim (cases_eq (length xs) (length ys)) [
      | inl alike ↦
          let all = met.met alike in
          keeps_each xs xs' all.first (λ k a a' ea ea' offers is.
          let within : k < length xs = slice_get_within xs k a ea in
          let b = there ys k (omega (arith, within, alike)) in
          let b' = there ys' k (omega (arith, within, alike, all.second)) in
          let one = all.each k a b.0 a' b'.0 ea b.1 ea' b'.1 in
          four (learned_offer a.seat.first) (learned_offer a'.seat.first) (learned_offer a.seat.second) (learned_offer a'.seat.second) (learned_offer a.seat.third) (learned_offer a'.seat.third) (learned_offer a.seat.fourth) (learned_offer a'.seat.fourth) offers
          (still_offer a.seat.first a'.seat.first one.constants.first_remains one.constants.first_sights)
          (still_offer a.seat.second a'.seat.second one.expressions.first_remains one.expressions.first_sights)
          (still_offer a.seat.third a'.seat.third one.allocation.first_remains one.allocation.first_sights)
          (still_offer a.seat.fourth a'.seat.fourth one.order.first_remains one.order.first_sights) is)
      | inr other ↦ subst (λ l. KeepsLearned (learned_by xs) (learned_by l)) (sym (met.unlike other).0) (keeps_none (learned_by xs))
    ]

    pub second_keeps : KeepsLearned (learned_by ys) (learned_by ys')
    second_keeps = elim (cases_eq (length xs) (length ys)) [
      | inl alike ↦
          let all = met.met alike in
          keeps_each ys ys' all.second (λ k b b' eb eb' offers is.
          let within : k < length ys = slice_get_within ys k b eb in
          let a = there xs k (omega (arith, within, alike)) in
          let a' = there xs' k (omega (arith, within, alike, all.first)) in
          let one = all.each k a.0 b a'.0 b' a.1 eb a'.1 eb' in
          four (learned_offer b.seat.first) (learned_offer b'.seat.first) (learned_offer b.seat.second) (learned_offer b'.seat.second) (learned_offer b.seat.third) (learned_offer b'.seat.third) (learned_offer b.seat.fourth) (learned_offer b'.seat.fourth) offers
          (still_offer b.seat.first b'.seat.first one.constants.second_remains one.constants.second_sights)
          (still_offer b.seat.second b'.seat.second one.expressions.second_remains one.expressions.second_sights)
          (still_offer b.seat.third b'.seat.third one.allocation.second_remains one.allocation.second_sights)
          (still_offer b.seat.fourth b'.seat.fourth one.order.second_remains one.order.second_sights) is)
      | inr other ↦ subst (λ l. KeepsLearned (learned_by ys) (learned_by l)) (sym (met.unlike other).1) (keeps_none (learned_by ys))
    ]
