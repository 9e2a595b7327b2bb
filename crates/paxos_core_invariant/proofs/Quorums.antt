-- A promise quorum and an accept quorum meet: they share a node.
use Rattle.std.proofs.Common.{◌≡◌, ℕ, zero, suc, ◌+◌, ◌<◌, ◌⊎◌, Bool, true, false, IsTrue, if◌then◌else◌, inl, inr, refl, sym, subst, arith, eqb, eqb-true}
use Rattle.std.proofs.lemmas.Bool.{eqb-false}
use Rattle.paxos_core_world.specs.Quorum.{Sizes, AreQuorums, count_below, IsPromiseQuorum, IsAcceptQuorum}
use Rattle.paxos_core_world.proofs.Quorums.{overlap}

-- a node in both sets
pub record Shared (n : ℕ) (p q : ℕ → Bool) : Type 0 where
  pub node : ℕ
  pub below : node < n
  pub left : IsTrue (p node)
  pub right : IsTrue (q node)

shared_wider : {n : ℕ} {p q : ℕ → Bool} → Shared n p q → Shared (suc n) p q
shared_wider s =
    let below : s.node < _ = s.below in
    record { node = s.node; below = omega arith; left = s.left; right = s.right }

meet_step : (n : ℕ) (p q : ℕ → Bool) → (n < count_below n p + count_below n q → Shared n p q) → (x y : Bool) → p n ≡ x → q n ≡ y
    → suc n < ((if x then 1 else 0) + count_below n p) + ((if y then 1 else 0) + count_below n q) → Shared (suc n) p q
meet_step n p q below true true e f h = record { node = n; below = omega arith; left = e; right = f }
meet_step n p q below true false e f h = shared_wider (below (omega arith))
meet_step n p q below false true e f h = shared_wider (below (omega arith))
meet_step n p q below false false e f h = shared_wider (below (omega arith))

meet_below : (n : ℕ) (p q : ℕ → Bool) → n < count_below n p + count_below n q → Shared n p q
meet_below zero p q h = absurd (omega arith)
meet_below (suc n) p q h = meet_step n p q (meet_below n p q) (p n) (q n) refl refl h

pub meet : (q : Sizes) → AreQuorums q → (s t : ℕ → Bool) → IsPromiseQuorum q s → IsAcceptQuorum q t → Shared q.nodes s t
meet q are s t h k = meet_below q.nodes s t (overlap q are (count_below q.nodes s) (count_below q.nodes t) h k)

-- some node below n passes the test, or none does
Found : ℕ → (ℕ → Bool) → Type 0
Found n t = ((a : ℕ) × (a < n) × IsTrue (t a)) ⊎ ((a : ℕ) → a < n → t a ≡ false)

find_step : (n : ℕ) (t : ℕ → Bool) → Found n t → (x : Bool) → t n ≡ x → Found (suc n) t
unfolding Found
find_step n t before true e = inl (n, omega arith, e)
find_step n t (inl (a, l, e)) false f = inl (a, omega arith, e)
find_step n t (inr none) false f = inr (λ a l. at_most a l (eqb a n) refl)
  where
    at_most : (a : ℕ) → a < suc n → (x : Bool) → eqb a n ≡ x → t a ≡ false
    at_most a l true same = let e : a ≡ n = eqb-true a n same in subst (λ (m : ℕ). t m ≡ false) (sym e) f
    at_most a l false other = none a (omega (arith, eqb-false a n other))

pub find_below : (n : ℕ) (t : ℕ → Bool) → ((a : ℕ) × (a < n) × IsTrue (t a)) ⊎ ((a : ℕ) → a < n → t a ≡ false)
unfolding Found
find_below zero t = inr (λ a l. absurd (omega arith))
find_below (suc n) t = find_step n t (find_below n t) (t n) refl
