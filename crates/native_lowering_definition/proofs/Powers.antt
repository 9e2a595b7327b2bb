-- Exponents of words that are powers of two.
use Rattle.std.proofs.Common.{◌≡◌, ℕ, zero, suc, ◌+◌, ◌-◌, ◌^◌, ◌<◌, Bool, true, false, ◌||◌, Option, Some, None, refl, sym, ap, ◌∙◌, arith}
use Rattle.std.specs.Prelude.{nat_eq, nat_lt, ◌==◌, if◌then◌else◌}
use Rattle.std.proofs.lemmas.Bool.{eqb-true, eq-eqb, ltb-true, ltb-false}
use Rattle.std.proofs.lemmas.Nat.{pow_pos}
use Rattle.native_lowering_definition.specs.Powers.{exponent_from, exponent, power_known}

some_is : (k j : ℕ) → Some k ≡ Some j → k ≡ j
some_is k j e = cc

none_is : (P : Type 0) (j : ℕ) → None ≡ Some j → P
none_is P j e = absurd (no e)
  where
    no : None ≡ Some j → ⊥
    no e = cc

-- ---- the search

first_is : (k more w : ℕ) → w ≡ 2 ^ k → exponent_from k (suc more) w ≡ Some k
unfolding exponent_from
first_is k more w e = ap (λ b. if b then Some k else exponent_from (suc k) more w) (eq-eqb w (2 ^ k) e)

first_is_other : (k more w : ℕ) → nat_eq w (2 ^ k) ≡ false → exponent_from k (suc more) w ≡ exponent_from (suc k) more w
unfolding exponent_from
first_is_other k more w e = ap (λ b. if b then Some k else exponent_from (suc k) more w) e

pub none_left : (k w : ℕ) → exponent_from k 0 w ≡ None
unfolding exponent_from
none_left k w = refl

pub found_at : (k w : ℕ) → k < 32 → w ≡ 2 ^ k → exponent_from k (32 - k) w ≡ Some k
found_at k w few e =
    let more : 32 - k ≡ suc (31 - k) = omega (arith, few) in
    ap (λ n. exponent_from k n w) more ∙ first_is k (31 - k) w e

pub passed_at : (k w : ℕ) → k < 32 → nat_eq w (2 ^ k) ≡ false → exponent_from (k + 1) (32 - (k + 1)) w ≡ exponent_from k (32 - k) w
passed_at k w few e =
    let more : 32 - k ≡ suc (32 - (k + 1)) = omega (arith, few) in
    let next : k + 1 ≡ suc k = omega arith in
    ap (λ n. exponent_from n (32 - (k + 1)) w) next ∙ sym (first_is_other k (32 - (k + 1)) w e) ∙ ap (λ n. exponent_from k n w) (sym more)

-- ---- what is found

abbrev IsExponent : ℕ → ℕ → ℕ → Type 0
IsExponent bound w j = (w ≡ 2 ^ j) × (j < bound)

either_is : (b : Bool) (k more w j : ℕ) → nat_eq w (2 ^ k) ≡ b → (exponent_from (suc k) more w ≡ Some j → IsExponent (suc k + more) w j)
    → (if b then Some k else exponent_from (suc k) more w) ≡ Some j → IsExponent (k + suc more) w j
either_is true k more w j told others e =
    let same : k ≡ j = some_is k j e in
    (eqb-true w (2 ^ k) told ∙ ap (λ n. 2 ^ n) same, omega (arith, same))
either_is false k more w j told others e =
    let so = others e in
    (so.0, omega (arith, so.1))

from_is : (k more w j : ℕ) → exponent_from k more w ≡ Some j → IsExponent (k + more) w j
unfolding exponent_from
from_is k zero w j e = none_is _ j e
from_is k (suc more) w j e = either_is (nat_eq w (2 ^ k)) k more w j refl (λ h. from_is (suc k) more w j h) e

-- 0 is no power of two
pub none_at_zero : (w : ℕ) → nat_eq w 0 ≡ true → exponent w ≡ None
none_at_zero w none = by (exponent w) refl
  where
    by : (o : Option ℕ) → exponent w ≡ o → o ≡ None
    by None e = refl
    by (Some k) e =
        let so = from_is 0 32 w k e in
        let zero_is : 2 ^ k ≡ 0 = sym so.0 ∙ eqb-true w 0 none in
        absurd (omega (arith, pow_pos k, zero_is))

-- and 2 ^ 32 - 1 is none that is below 2 ^ 31
pub none_signed : (w : ℕ) → (w == 0 || w == 2 ^ 32 - 1) ≡ true → power_known (Some w) true ≡ None
none_signed w told = by (nat_lt w (2 ^ 31)) (nat_eq w 0) refl refl
  where
    by : (b z : Bool) → nat_lt w (2 ^ 31) ≡ b → nat_eq w 0 ≡ z → power_known (Some w) true ≡ None
    by false z low none = ap (λ b. if b then exponent w else None) low
    by true true low none = ap (λ b. if b then exponent w else None) low ∙ none_at_zero w none
    by true false low none =
        let last : nat_eq w (2 ^ 32 - 1) ≡ true = sym (ap (λ z. z || nat_eq w (2 ^ 32 - 1)) none) ∙ told in
        absurd (omega (arith, ltb-true w (2 ^ 31) low, eqb-true w (2 ^ 32 - 1) last))

-- what a power that is known tells of the divisor
pub record IsPower (w : Option ℕ) (signed : Bool) (k : ℕ) : Type 0 where
  pub word : w ≡ Some (2 ^ k)
  pub below : k < 32
  pub low : signed ≡ true → k < 31

true_only : (P : Type 0) → false ≡ true → P
true_only P e = absurd (no e)
  where
    no : false ≡ true → ⊥
    no e = cc

low_exponent : (b : Bool) (w k : ℕ) → nat_lt k 31 ≡ b → w < 2 ^ 31 → IsExponent 32 w k → k < 31
low_exponent true w k told small so = ltb-true k 31 told
low_exponent false w k told small so =
    let least : k ≡ 31 = omega (arith, ltb-false k 31 told, so.1) in
    let same : w ≡ 2 ^ 31 = so.0 ∙ ap (λ n. 2 ^ n) least in
    absurd (omega (arith, same, small))

signed_is : (b : Bool) (w k : ℕ) → nat_lt w (2 ^ 31) ≡ b → (if b then exponent w else None) ≡ Some k → IsPower (Some w) true k
signed_is true w k told e =
    let so = from_is 0 32 w k e in
    record { word = ap Some so.0; below = so.1; low = λ same. low_exponent (nat_lt k 31) w k refl (ltb-true w (2 ^ 31) told) so }
signed_is false w k told e = none_is _ k e

pub power_is : (w : Option ℕ) (signed : Bool) (k : ℕ) → power_known w signed ≡ Some k → IsPower w signed k
power_is None signed k e = none_is _ k e
power_is (Some w) true k e = signed_is (nat_lt w (2 ^ 31)) w k refl e
power_is (Some w) false k e =
    let so = from_is 0 32 w k e in
    record { word = ap Some so.0; below = so.1; low = λ same. true_only (k < 31) same }
