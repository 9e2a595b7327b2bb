-- What a seat has learned and seen.
use Rattle.std.proofs.Common.{◌≡◌, ℕ, ◌<◌, Bool, true, false, cond, nat_lt, Option, Some, None, Bor, refl, sym, ap, ◌∙◌, option_copied, arith}
use Rattle.std.specs.Prelude.{IsSome, MatchOption}
use Rattle.std.proofs.lemmas.Bool.Decides.{nat_tests}
use Rattle.farm_nodes_turn_passes.specs.SeatValue.{SeatValue, offer_of}
use Rattle.farm_nodes_meet_seats.specs.Learned.{offer_learned, learned_offer}

-- the node whose offer it is
pub record IsLearned {T : Type 0} (s : SeatValue T) (l : Option ℕ) (x : T) : Type 0 where
  pub value : ℕ
  pub learned : l ≡ Some value
  pub seen : offer_of s value ≡ Some x

held_back : {T : Type 0} (b : Bool) (p : Option T) (x : T) → cond b p None ≡ Some x → p ≡ Some x
held_back true p x e = e
held_back false p x e = absurd (cc e)

pub learned_at : {T : Type 0} (s : SeatValue T) (l : Option ℕ) (x : T) → offer_learned s l ≡ Some x → IsLearned s l x
learned_at s None x e = absurd (cc e)
learned_at s (Some v) x e = record { value = v; learned = refl; seen = held_back (nat_lt v s.words.node.quorums.nodes) (offer_of s v) x e }

-- what both have, if all that both have are one
pub one_option : {T : Type 0} (p q : Option T) → IsSome p → IsSome q → ((x y : T) → p ≡ Some x → q ≡ Some y → x ≡ y) → p ≡ q
one_option None q there there' one = absurd (cc there)
one_option (Some x) None there there' one = absurd (cc there')
one_option (Some x) (Some y) there there' one = λ i. Some (one x y refl refl i)

seen_as : {T : Type 0} (r : Option (Bor T)) (o : Option T) → MatchOption r (o ≡ None) (λ x. o ≡ Some x.now) → option_copied r ≡ o
seen_as None o found = sym found
seen_as (Some x) o found = sym found

-- what is fetched of the node that was learned
below : (v n : ℕ) → v < n → nat_lt v n ≡ true
below v n lower = grind (arith, nat_tests)

pub fetched : {T : Type 0} (s : SeatValue T) (v : ℕ) (r : Option (Bor T)) → s.words.node.learned ≡ Some v → v < s.words.node.quorums.nodes
    → MatchOption r (offer_of s v ≡ None) (λ x. offer_of s v ≡ Some x.now) → option_copied r ≡ learned_offer s
fetched s v r e lower found =
    let held : learned_offer s ≡ offer_of s v = ap (λ (l : Option ℕ). offer_learned s l) e ∙ ap (λ b. cond b (offer_of s v) None) (below v s.words.node.quorums.nodes lower) in
    seen_as r (offer_of s v) found ∙ sym held
