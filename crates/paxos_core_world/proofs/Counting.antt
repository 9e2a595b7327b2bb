-- Counting the nodes of a set.
use Rattle.std.proofs.Common.{◌≡◌, ℕ, zero, suc, ◌<◌, ◌≤◌, Bool, true, false, IsTrue, if◌then◌else◌, refl, arith}
use Rattle.paxos_core_world.specs.Quorum.{count_below}

count_step : (x y : Bool) → (x ≡ true → y ≡ true) → (if x then 1 else 0) ≤ (if y then 1 else 0)
count_step true true h = omega arith
count_step true false h = absurd (let e : false ≡ true = h refl in cc)
count_step false true h = omega arith
count_step false false h = omega arith

-- a set that includes another has at least as many nodes
pub count_grows : (n : ℕ) (p q : ℕ → Bool) → ((a : ℕ) → a < n → IsTrue (p a) → IsTrue (q a)) → count_below n p ≤ count_below n q
count_grows zero p q h = omega arith
count_grows (suc n) p q h =
    let here = count_step (p n) (q n) (h n (omega arith)) in
    let rest = count_grows n p q (λ a l. h a (omega arith)) in
    omega arith
