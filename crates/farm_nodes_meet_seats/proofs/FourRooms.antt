-- The four rooms of a function together.
use Rattle.std.proofs.Common.{◌≡◌, ◌≢◌, ◌↔◌, ℕ, Bool, true, false, ◌&&◌, Option, Some, None, IfSome, is_some, refl, sym, ap, ◌∙◌, inl, inr}
use Rattle.std.proofs.lemmas.Bool.{cases_eq}
use Rattle.std.specs.Prelude.{IsSome, IsTrue}
use Rattle.rooms_hall.specs.Claimed.{Claimed}
use Rattle.farm_nodes_turn_passes.specs.FunctionMeeting.{FunctionMeeting}
use Rattle.farm_nodes_turn_passes.specs.FunctionSeat.{FunctionSeat}
use Rattle.farm_nodes_turn_passes.specs.FunctionOf.{AreAsBefore, ShareNoRoom, HaveMetIn}
use Rattle.farm_nodes_turn_passes.specs.Met.{IsOneFunction}
use Rattle.farm_nodes_turn_passes.specs.Offers.{ConstantsOffer, ExpressionsOffer, AllocationOffer, OrderOffer}
use Rattle.farm_nodes_meet_seats.specs.Held.{Held, held}
use Rattle.farm_nodes_meet_seats.specs.Learned.{learned_offer}
use Rattle.farm_nodes_meet_seats.specs.Functions.{AreOne, BothLink, HasAll, HoldSameOffers, MetIn, HasMet}
use Rattle.farm_nodes_meet_seats.proofs.Rooms.{met_apart, met_there, one_held}

and_told : (p q : Bool) (P Q : Type 0) → (IsTrue p ↔ P) → (IsTrue q ↔ Q) → IsTrue (p && q) ↔ (P × Q)
and_told true q P Q is is' = (λ e. (is.0 refl, is'.0 e), λ both. is'.1 both.1)
and_told false q P Q is is' = (λ e. absurd (cc e), λ both. absurd (cc (is.1 both.0)))

-- so both are where it is told
pub both_told : (p q told : Bool) (P Q : Type 0) → (IsTrue p ↔ P) → (IsTrue q ↔ Q) → told ≡ (p && q) → IsTrue told ↔ (P × Q)
both_told p q told P Q is is' all =
    let both : IsTrue (p && q) ↔ (P × Q) = and_told p q P Q is is' in
    (λ e. both.0 (sym all ∙ e), λ held. all ∙ both.1 held)

module _ {T1 T2 T3 T4 : Type 0} (s t s' t' : Held T1 T2 T3 T4) (met : MetIn s t s' t') where
  pub same_held : BothLink s' t' → HoldSameOffers s' t'
  same_held link = record {
    constants = one_held s.constants t.constants s'.constants t'.constants met.constants link.constants;
    expressions = one_held s.expressions t.expressions s'.expressions t'.expressions met.expressions link.expressions;
    allocation = one_held s.allocation t.allocation s'.allocation t'.allocation met.allocation link.allocation;
    order = one_held s.order t.order s'.order t'.order met.order link.order;
  }

  pub same_rooms : BothLink s' t' → AreOne s t
  same_rooms link = record {
    constants = met.constants.room.1 link.constants.room;
    expressions = met.expressions.room.1 link.expressions.room;
    allocation = met.allocation.room.1 link.allocation.room;
    order = met.order.room.1 link.order.room;
  }

  -- who is of the four rooms and has all offers links, and who links is and has
  both_link : AreOne s t → HasAll s' → HasAll t' → BothLink s' t'
  both_link one a b = record {
    constants = record { room = met.constants.room.0 one.constants; first = a.constants; second = b.constants };
    expressions = record { room = met.expressions.room.0 one.expressions; first = a.expressions; second = b.expressions };
    allocation = record { room = met.allocation.room.0 one.allocation; first = a.allocation; second = b.allocation };
    order = record { room = met.order.room.0 one.order; first = a.order; second = b.order };
  }

  have_both : BothLink s' t' → HasAll s' × HasAll t'
  have_both link = (
    record { constants = link.constants.first; expressions = link.expressions.first; allocation = link.allocation.first; order = link.order.first },
    record { constants = link.constants.second; expressions = link.expressions.second; allocation = link.allocation.second; order = link.order.second },
  )

  -- it is told whether they are of the same rooms, and whether both have all offers
  pub has_met : (one both told : Bool) → (IsTrue one ↔ AreOne s t) → (IsTrue both ↔ (HasAll s' × HasAll t')) → told ≡ (one && both) → HasMet s t s' t' told
  has_met one both told is have all =
      let every : IsTrue told ↔ (AreOne s t × (HasAll s' × HasAll t')) = both_told one both told (AreOne s t) (HasAll s' × HasAll t') is have all in
      record {
        met = met;
        link = (λ e. let h = every.0 e in both_link h.0 h.1.0 h.1.1, λ link. every.1 (same_rooms link, have_both link));
        same = same_held;
      }

-- four answers together
pub all_told : (p q r x early late told : Bool) (P Q R X : Type 0) → (IsTrue p ↔ P) → (IsTrue q ↔ Q) → (IsTrue r ↔ R) → (IsTrue x ↔ X)
    → early ≡ (p && q) → late ≡ (r && x) → told ≡ (early && late) → IsTrue told ↔ ((P × Q) × (R × X))
all_told p q r x early late told P Q R X ip iq ir ix ee el et =
    both_told early late told (P × Q) (R × X) (both_told p q early P Q ip iq ee) (both_told r x late R X ir ix el) et

abbrev pub held_with : Claimed → FunctionSeat → Held ConstantsOffer ExpressionsOffer AllocationOffer OrderOffer
held_with c a = held c a.first c a.second c a.third c a.fourth

-- whether all four are there
pub has_all_told : (c : Claimed) (a : FunctionSeat) (p q r x early late told : Bool) → (IsTrue p ↔ IsSome (learned_offer a.first)) → (IsTrue q ↔ IsSome (learned_offer a.second))
    → (IsTrue r ↔ IsSome (learned_offer a.third)) → (IsTrue x ↔ IsSome (learned_offer a.fourth)) → early ≡ (p && q) → late ≡ (r && x) → told ≡ (early && late)
    → IsTrue told ↔ HasAll (held_with c a)
has_all_told c a p q r x early late told ip iq ir ix ee el et =
    let all = all_told p q r x early late told _ _ _ _ ip iq ir ix ee el et in (
      λ e. let h = all.0 e in record { constants = h.0.0; expressions = h.0.1; allocation = h.1.0; order = h.1.1 },
      λ h. all.1 ((h.constants, h.expressions), (h.allocation, h.order)),
    )

-- numbers that are not two are one
one_number : (n m : ℕ) → (n ≢ m → ⊥) → n ≡ m
one_number n m never = elim (cases_eq n m) [ inl e ↦ e | inr apart ↦ absurd (never apart) ]

module _ (c d c' d' : Claimed) (a b a' b' : FunctionSeat) (ec : c' ≡ c) (ed : d' ≡ d) where
  -- they have met in each room, or are as they were
  pub met_in : (m : Option FunctionMeeting) → (m ≡ None → ShareNoRoom a b) → ((m ≡ None) ↔ (c.number ≢ d.number)) → AreAsBefore m a b a' b'
      → IfSome m (λ x. IsOneFunction a b) → IfSome m (λ x. HaveMetIn x a b a' b') → MetIn (held_with c a) (held_with d b) (held_with c' a') (held_with d' b')
  met_in None away two same is met =
      let ea : a' ≡ a = (same refl).0 in
      let eb : b' ≡ b = (same refl).1 in
      record {
        constants = met_apart c d c' d' a.first b.first a'.first b'.first ec ed (away refl).first (two.0 refl) (ap (λ (s : FunctionSeat). s.first) ea) (ap (λ (s : FunctionSeat). s.first) eb);
        expressions = met_apart c d c' d' a.second b.second a'.second b'.second ec ed (away refl).second (two.0 refl) (ap (λ (s : FunctionSeat). s.second) ea) (ap (λ (s : FunctionSeat). s.second) eb);
        allocation = met_apart c d c' d' a.third b.third a'.third b'.third ec ed (away refl).third (two.0 refl) (ap (λ (s : FunctionSeat). s.third) ea) (ap (λ (s : FunctionSeat). s.third) eb);
        order = met_apart c d c' d' a.fourth b.fourth a'.fourth b'.fourth ec ed (away refl).fourth (two.0 refl) (ap (λ (s : FunctionSeat). s.fourth) ea) (ap (λ (s : FunctionSeat). s.fourth) eb);
      }
  met_in (Some x) away two same is have =
      let one : c.number ≡ d.number = one_number c.number d.number (λ apart. let bad : Some x ≡ None = two.1 apart in cc) in
      record {
        constants = met_there c d c' d' a.first b.first a'.first b'.first ec ed x.first is.first one have.first;
        expressions = met_there c d c' d' a.second b.second a'.second b'.second ec ed x.second is.second one have.second;
        allocation = met_there c d c' d' a.third b.third a'.third b'.third ec ed x.third is.third one have.third;
        order = met_there c d c' d' a.fourth b.fourth a'.fourth b'.fourth ec ed x.fourth is.fourth one have.fourth;
      }

  -- it is told whether they are of the same rooms
  pub one_told : (m : Option FunctionMeeting) → (m ≡ None → ShareNoRoom a b) → IfSome m (λ x. IsOneFunction a b)
      → IsTrue (is_some m) ↔ AreOne (held_with c a) (held_with d b)
  one_told None away is = (λ e. absurd (cc e), λ one. absurd ((away refl).first one.constants))
  one_told (Some x) away is = (
    λ _. record {
      constants = is.first;
      expressions = is.second;
      allocation = is.third;
      order = is.fourth;
    },
    λ _. refl,
  )
