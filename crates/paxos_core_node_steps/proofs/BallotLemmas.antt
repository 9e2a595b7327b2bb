-- The next ballot of a node is the least of its own above the floor.
use Rattle.std.proofs.Common.{◌≡◌, ℕ, suc, ◌+◌, ◌-◌, ◌*◌, ◌/◌, ◌%◌, ◌<◌, ◌≤◌, ◌⊎◌, sym, ap, ◌∙◌, inl, inr, arith}
use Rattle.std.proofs.Math.Nat.{add-mod_left, mod-eq_of_lt, mul-le-mul_left, mod-lt}
use Rattle.std.proofs.lemmas.Bool.{cases_lt}
use Rattle.std.proofs.lemmas.Nat.{mod-mul-add, div-add-mod'}
use Rattle.paxos_core_node_steps.specs.NextBallot.{least_above, IsLeastAbove, IsSpent}

-- how far it is from a number of remainder r to the next one of remainder i
abbrev ahead : ℕ → ℕ → ℕ → ℕ
ahead i n r = (i + n - r) % n

-- either less than n further, or round once
ahead_cases : (i n r : ℕ) → i < n → r < n → (r + ahead i n r ≡ i) ⊎ (r + ahead i n r ≡ i + n)
ahead_cases i n r h k = elim (cases_lt i r) [ inl lower ↦ inr (round lower) | inr upper ↦ inl (direct upper) ]
  where
    round : i < r → r + ahead i n r ≡ i + n
    round lower =
        let below : i + n - r < n = omega arith in
        let same : ahead i n r ≡ i + n - r = mod-eq_of_lt below in
        omega arith

    direct : r ≤ i → r + ahead i n r ≡ i
    direct upper =
        let split : i + n - r ≡ n + (i - r) = omega arith in
        let below : i - r < n = omega arith in
        let same : ahead i n r ≡ i - r = ap (λ x. x % n) split ∙ (add-mod_left n (i - r) ∙ mod-eq_of_lt below) in
        omega arith

-- a number of remainder i, with what it is a multiple of n before that
pub turn_of : (i n b q : ℕ) → i < n → b ≡ q * n + i → b % n ≡ i
turn_of i n b q h e = ap (λ x. x % n) e ∙ mod-mul-add q n i h

-- of two numbers of one remainder, one that is less than n above the other is not above it
apart : (n i p q c b : ℕ) → c ≡ p * n + i → b ≡ q * n + i → b < c + n → b ≤ c
apart n i p q c b e f h = elim (cases_lt p q) [ inl above ↦ absurd (too_far above) | inr not_above ↦ near not_above ]
  where
    too_far : p < q → ⊥
    too_far above =
        let more : suc p ≤ q = omega arith in
        let far : n * suc p ≤ n * q = mul-le-mul_left n more in
        omega arith

    near : q ≤ p → b ≤ c
    near not_above = let low : n * q ≤ n * p = mul-le-mul_left n not_above in omega arith

-- b is the least number above the floor of remainder i, if it is less than n above the number after the floor
least_if : (i n floor b q : ℕ) → i < n → floor < b → b < floor + 1 + n → b ≡ q * n + i → IsLeastAbove i n floor b
least_if i n floor b q h above near turn =
    record {
      above = above;
      turn = turn_of i n b q h turn;
      least = λ c k e. apart n i (c / n) q c b (sym (div-add-mod' c n) ∙ ap (λ x. c / n * n + x) e) turn (omega arith);
    }

-- what the definition gives is that number
pub least_above_is : (i n floor : ℕ) → i < n → IsLeastAbove i n floor (least_above i n floor)
least_above_is i n floor h =
    let positive : 0 < n = omega arith in
    let r = (floor + 1) % n in
    let q = (floor + 1) / n in
    let small : r < n = mod-lt (floor + 1) positive in
    let step : ahead i n r < n = mod-lt (i + n - r) positive in
    let split : q * n + r ≡ floor + 1 = div-add-mod' (floor + 1) n in
    elim (ahead_cases i n r h small) [
      | inl e ↦ least_if i n floor (least_above i n floor) q h (omega arith) (omega arith) (omega arith)
      | inr e ↦ least_if i n floor (least_above i n floor) (suc q) h (omega arith) (omega arith) (omega arith)
    ]

-- where the least such number is no ballot, no own ballot is left
pub spent : (i n floor b : ℕ) → IsLeastAbove i n floor b → 65535 < b → IsSpent i n floor
spent i n floor b h past c o = elim (cases_lt floor c) [ inl above ↦ absurd (too_high above) | inr below ↦ below ]
  where
    too_high : floor < c → ⊥
    too_high above = let least = h.least c above o.turn in let last = o.last in omega arith
