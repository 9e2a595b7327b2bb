-- Signed quotients and rests by 2 ^ k: to a negative word 2 ^ k - 1 is added first, so that the shift rounds toward 0.
use Rattle.std.proofs.Common.{◌≡◌, ℕ, suc, ◌+◌, ◌-◌, ◌*◌, ◌/◌, ◌%◌, ◌^◌, ◌<◌, ◌≤◌, Bool, true, false, None, Some, refl, sym, ap, ◌∙◌, pos, negsuc, neg_ℤ, arith}
use Rattle.std.specs.Prelude.{nat_lt, if◌then◌else◌, int_div, int_rem, bit_and}
use native.Mathlib.Nat.{mod-lt, mod-eq_of_lt, div-eq_of_lt, mod-add-div, add-div_right, add-mul-mod_self_left, mul-add, mul-suc, lt_of_mul-lt-mul_left}
use Rattle.std.proofs.lemmas.Bool.{ltb-true, ltb-false, lt-leb}
use Rattle.std.proofs.lemmas.Int.{ints}
use Rattle.std.proofs.lemmas.Nat.{pow_pos, pow_below, pow-add, and_mask}
use Rattle.ints.specs.MachineTable.{machine_table}
use Rattle.ints.specs.Words.{signed, wrapped, floor_of}
use Rattle.x86_syntax.specs.declared.operators.Operator.TheVariants.{Add, Sub}
use Rattle.x86_syntax.specs.declared.operators.Shifting.TheVariants.{Sar}
use Rattle.x86_state.specs.Tables.{operated, shifted, sign_of}

-- ---- words as signed

from_zero : (w : ℕ) → w < 2 ^ 31 → signed w ≡ pos w
from_zero w h = grind (arith, ints)

below_zero : (w : ℕ) → 2 ^ 31 ≤ w → w < 2 ^ 32 → signed w ≡ negsuc (2 ^ 32 - 1 - w)
below_zero w h k = grind (arith, ints)

negative : (j : ℕ) → neg_ℤ (pos (j + 1)) ≡ negsuc j
negative j = grind (arith, ints)

sum_is : (x y : ℕ) → operated Add x y ≡ (x + y) % 2 ^ 32
unfolding operated
sum_is x y = grind (arith, ints)

nothing_added : (x : ℕ) → x < 2 ^ 32 → operated Add x 0 ≡ x
nothing_added x h =
    let same : x + 0 ≡ x = omega (arith) in
    sum_is x 0 ∙ ap (λ n. n % 2 ^ 32) same ∙ mod-eq_of_lt h

nothing_taken : (r : ℕ) → operated Sub r 0 ≡ wrapped (pos r)
unfolding operated
nothing_taken r = grind (arith, ints)

taken : (p r : ℕ) → r < p → operated Sub (p - 1 - r) (p - 1) ≡ wrapped (neg_ℤ (pos r))
unfolding operated
taken p r h = grind (arith, ints)

-- what is added: the low k bits of the sign
abbrev pub added : ℕ → ℕ → ℕ
added k x = bit_and (sign_of x) (2 ^ k - 1)

module _ (k : ℕ) (few : k < 31) where
  abbrev p : ℕ
  p = 2 ^ k

  some : 0 < p
  some = pow_pos k

  small : p < 2 ^ 31
  small = pow_below k 31 few

  p_is : signed p ≡ pos p
  p_is = from_zero p small

  -- 2 ^ 32 is so many of it
  abbrev many : ℕ
  many = 2 ^ (32 - k)

  whole : p * many ≡ 2 ^ 32
  whole =
      let split : k + (32 - k) ≡ 32 = omega (arith, few) in
      sym (pow-add 2 k (32 - k)) ∙ ap (λ n. 2 ^ n) split

  rest_at : (x y e : ℕ) → y < p → x ≡ y + p * e → x % p ≡ y
  rest_at x y e less is = ap (λ n. n % p) is ∙ add-mul-mod_self_left y p e ∙ mod-eq_of_lt less

  all_bits : (2 ^ 32 - 1) % p ≡ p - 1
  all_bits =
      let more : many ≡ suc (many - 1) = omega (arith, pow_pos (32 - k)) in
      let product : p * many ≡ p * (many - 1) + p = ap (λ n. p * n) more ∙ mul-suc p (many - 1) in
      rest_at (2 ^ 32 - 1) (p - 1) (many - 1) (omega (arith, some)) (omega (arith, whole, product, some))

  -- ---- from 2 ^ 31 on

  module _ (x : ℕ) (low : 2 ^ 31 ≤ x) (h : x < 2 ^ 32) where
    -- its distance from 0, less one
    abbrev m : ℕ
    m = 2 ^ 32 - 1 - x

    abbrev s : ℕ
    s = operated Add x (p - 1)

    -- it is at least 2 ^ k away
    far_is : p ≤ suc m → s ≡ x + (p - 1)
    far_is far = sum_is x (p - 1) ∙ mod-eq_of_lt (omega (arith, far, h, some))

    far_quotient : p ≤ suc m → floor_of (signed s) p ≡ int_div (signed x) (signed p)
    far_quotient far =
        let at : signed s ≡ negsuc (2 ^ 32 - 1 - s) = below_zero s (omega (arith, far_is far, low)) (omega (arith, far_is far, far, h, some)) in
        let from : suc m ≡ 2 ^ 32 - 1 - s + p = omega (arith, far_is far, far, h, some) in
        let quotient : suc m / p ≡ (2 ^ 32 - 1 - s) / p + 1 = ap (λ n. n / p) from ∙ add-div_right (2 ^ 32 - 1 - s) some in
        ap (λ z. floor_of z p) at
        ∙ sym (negative ((2 ^ 32 - 1 - s) / p))
        ∙ ap (λ n. neg_ℤ (pos n)) (sym quotient)
        ∙ sym ((λ i. int_div (below_zero x low h i) (p_is i)))

    far_rest : p ≤ suc m → s % p ≡ p - 1 - suc m % p
    far_rest far =
        let q : ℕ = suc m / p in
        let r : ℕ = suc m % p in
        let parts : r + p * q ≡ suc m = mod-add-div (suc m) p in
        let fewer : q < many = lt_of_mul-lt-mul_left p (omega (arith, parts, whole, low, h)) in
        let rest : many ≡ many - q + q = omega (arith, fewer) in
        let product : p * many ≡ p * (many - q) + p * q = ap (λ n. p * n) rest ∙ mul-add p (many - q) q in
        rest_at s (p - 1 - r) (many - q) (omega (arith, some)) (omega (arith, far_is far, parts, whole, product, mod-lt (suc m) some, low, h))

    -- it is nearer
    near_is : suc m < p → s ≡ p - 1 - suc m
    near_is near =
        let sum : x + (p - 1) ≡ p - 1 - suc m + 2 ^ 32 = omega (arith, near, h) in
        sum_is x (p - 1) ∙ ap (λ n. n % 2 ^ 32) sum ∙ rest_of_sum
      where
        rest_of_sum : (p - 1 - suc m + 2 ^ 32) % 2 ^ 32 ≡ p - 1 - suc m
        rest_of_sum = omega (arith, small)

    near_quotient : suc m < p → floor_of (signed s) p ≡ int_div (signed x) (signed p)
    near_quotient near =
        let within : s < p = omega (arith, near_is near, some) in
        ap (λ z. floor_of z p) (from_zero s (omega (arith, within, small)))
        ∙ ap (λ n. pos n) (div-eq_of_lt within)
        ∙ ap (λ n. neg_ℤ (pos n)) (sym (div-eq_of_lt near))
        ∙ sym ((λ i. int_div (below_zero x low h i) (p_is i)))

    near_rest : suc m < p → s % p ≡ p - 1 - suc m % p
    near_rest near =
        let within : s < p = omega (arith, near_is near, some) in
        mod-eq_of_lt within ∙ near_is near ∙ ap (λ n. p - 1 - n) (sym (mod-eq_of_lt near))

    low_quotient : floor_of (signed s) p ≡ int_div (signed x) (signed p)
    low_quotient = by (nat_lt (suc m) p) refl
      where
        by : (b : Bool) → nat_lt (suc m) p ≡ b → floor_of (signed s) p ≡ int_div (signed x) (signed p)
        by true told = near_quotient (ltb-true (suc m) p told)
        by false told = far_quotient (ltb-false (suc m) p told)

    low_rest : operated Sub (bit_and s (p - 1)) (p - 1) ≡ wrapped (int_rem (signed x) (signed p))
    low_rest =
        ap (λ n. operated Sub n (p - 1)) (and_mask s k ∙ by (nat_lt (suc m) p) refl)
        ∙ taken p (suc m % p) (mod-lt (suc m) some)
        ∙ ap wrapped (sym ((λ i. int_rem (below_zero x low h i) (p_is i))))
      where
        by : (b : Bool) → nat_lt (suc m) p ≡ b → s % p ≡ p - 1 - suc m % p
        by true told = near_rest (ltb-true (suc m) p told)
        by false told = far_rest (ltb-false (suc m) p told)

  -- ---- what comes of what is added

  added_is : (x : ℕ) (b : Bool) → nat_lt x (2 ^ 31) ≡ b → added k x ≡ (if b then 0 else p - 1)
  added_is x true told = and_mask (sign_of x) k ∙ ap (λ b. (if b then 0 else 2 ^ 32 - 1) % p) told ∙ mod-eq_of_lt some
  added_is x false told = and_mask (sign_of x) k ∙ ap (λ b. (if b then 0 else 2 ^ 32 - 1) % p) told ∙ all_bits

  quotient_at : (x : ℕ) → x < 2 ^ 32 → (b : Bool) → nat_lt x (2 ^ 31) ≡ b → floor_of (signed (operated Add x (if b then 0 else p - 1))) p ≡ int_div (signed x) (signed p)
  quotient_at x h true told =
      let at = from_zero x (ltb-true x (2 ^ 31) told) in
      ap (λ w. floor_of (signed w) p) (nothing_added x h) ∙ ap (λ z. floor_of z p) at ∙ sym ((λ i. int_div (at i) (p_is i)))
  quotient_at x h false told = low_quotient x (ltb-false x (2 ^ 31) told) h

  rest_of : (x : ℕ) → x < 2 ^ 32 → (b : Bool) → nat_lt x (2 ^ 31) ≡ b
      → operated Sub (bit_and (operated Add x (if b then 0 else p - 1)) (p - 1)) (if b then 0 else p - 1) ≡ wrapped (int_rem (signed x) (signed p))
  rest_of x h true told =
      let at = from_zero x (ltb-true x (2 ^ 31) told) in
      ap (λ w. operated Sub (bit_and w (p - 1)) 0) (nothing_added x h)
      ∙ ap (λ n. operated Sub n 0) (and_mask x k)
      ∙ nothing_taken (x % p)
      ∙ ap wrapped (sym ((λ i. int_rem (at i) (p_is i))))
  rest_of x h false told = low_rest x (ltb-false x (2 ^ 31) told) h

  pub shifted_quotient : (x : ℕ) → x < 2 ^ 32 → shifted Sar (operated Add x (added k x)) k ≡ Some (wrapped (int_div (signed x) (signed (2 ^ k))))
  unfolding machine_table
  shifted_quotient x h =
      ap (λ b. if b then None else Some (wrapped (floor_of (signed (operated Add x (added k x))) (2 ^ k)))) (lt-leb 32 k (omega (arith, few)))
      ∙ ap (λ n. Some (wrapped (floor_of (signed (operated Add x n)) (2 ^ k)))) (added_is x (nat_lt x (2 ^ 31)) refl)
      ∙ ap (λ z. Some (wrapped z)) (quotient_at x h (nat_lt x (2 ^ 31)) refl)

  pub masked_rest : (x : ℕ) → x < 2 ^ 32 → operated Sub (bit_and (operated Add x (added k x)) (2 ^ k - 1)) (added k x) ≡ wrapped (int_rem (signed x) (signed (2 ^ k)))
  masked_rest x h =
      ap (λ n. operated Sub (bit_and (operated Add x n) (2 ^ k - 1)) n) (added_is x (nat_lt x (2 ^ 31)) refl)
      ∙ rest_of x h (nat_lt x (2 ^ 31)) refl
