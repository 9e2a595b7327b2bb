-- Divisions: the tests before one tell exactly where the machine's table has no answer, and else the instruction gives both of its.
use Rattle.std.proofs.Common.{◌≡◌, ◌≢◌, ℕ, zero, suc, ◌+◌, ◌-◌, ◌/◌, ◌%◌, ◌^◌, ◌<◌, true, false, not, ◌||◌, [], ◌∷◌, Some, None, refl, sym, ap, ◌∙◌, ℤ, pos, negsuc, arith}
use Rattle.std.specs.Prelude.{nat_eq, if◌then◌else◌, int_div, int_rem, bit_or, bit_xor}
use native.Mathlib.Nat.{div-lt_self}
use Rattle.std.proofs.lemmas.Bool.{false≢true, eqb-true, eq-eqb}
use Rattle.std.proofs.lemmas.Int.{ints}
use Rattle.std.proofs.lemmas.Nat.{le_or_l, le_or_r}
use Rattle.std.proofs.lemmas.Nat.Bits.{bit_at_xor, bit_at-zero, bit_at-lt, same_from_bits}
use Rattle.std.specs.Int.{bit_at}
use Rattle.ints.specs.MachineTable.{machine_table}
use Rattle.ints.specs.Words.{signed, wrapped, is_int}
use Rattle.ints.specs.declared.operators.Op.TheVariants as op
use Rattle.x86_state.specs.Tables.{sign_of, both, divided, divided_unsigned}

-- ---- unsigned

module _ (x y : ℕ) where
  pub unsigned_quotient : nat_eq y 0 ≡ false → divided_unsigned 0 x y ≡ Some (x / y, x % y)
  unfolding machine_table
  unsigned_quotient some =
      ap (λ b. both (if b then None else Some (x / y)) (if b then None else Some (x % y))) some

  pub quotient_of : nat_eq y 0 ≡ false → machine_table op.DivU (x ∷ y ∷ []) ≡ Some (x / y)
  unfolding machine_table
  quotient_of some = ap (λ b. if b then None else Some (x / y)) some

  pub rest_of : nat_eq y 0 ≡ false → machine_table op.ModU (x ∷ y ∷ []) ≡ Some (x % y)
  unfolding machine_table
  rest_of some = ap (λ b. if b then None else Some (x % y)) some

  pub no_quotient : nat_eq y 0 ≡ true → machine_table op.DivU (x ∷ y ∷ []) ≡ None
  unfolding machine_table
  no_quotient none = ap (λ b. if b then None else Some (x / y)) none

  pub no_rest : nat_eq y 0 ≡ true → machine_table op.ModU (x ∷ y ∷ []) ≡ None
  unfolding machine_table
  no_rest none = ap (λ b. if b then None else Some (x % y)) none

-- ---- the test of a signed division

-- (A xor 2 ^ 31) or not B
abbrev pub tested : ℕ → ℕ → ℕ
tested x y = bit_or (bit_xor x (2 ^ 31)) (2 ^ 32 - 1 - y)

same_bits : (a b : ℕ) → bit_xor a b ≡ 0 → a ≡ b
same_bits a b e = same_from_bits a b (λ i.
    let bit : (bit_at a i + bit_at b i) % 2 ≡ 0 = sym (bit_at_xor a b i) ∙ ap (λ n. bit_at n i) e ∙ bit_at-zero i in
    omega (arith, bit, bit_at-lt a i, bit_at-lt b i))

-- it is 0 at the least `int` by -1 alone
tested_zero : (x y : ℕ) → y < 2 ^ 32 → tested x y ≡ 0 → (x ≡ 2 ^ 31) × (y ≡ 2 ^ 32 - 1)
tested_zero x y k e =
    let left : bit_xor x (2 ^ 31) ≡ 0 = omega (arith, le_or_l (bit_xor x (2 ^ 31)) (2 ^ 32 - 1 - y), e) in
    let right : 2 ^ 32 - 1 - y ≡ 0 = omega (arith, le_or_r (bit_xor x (2 ^ 31)) (2 ^ 32 - 1 - y), e) in
    (same_bits x (2 ^ 31) left, omega arith)

zero_tested : (x y : ℕ) → x ≡ 2 ^ 31 → y ≡ 2 ^ 32 - 1 → tested x y ≡ 0
zero_tested x y e f = rw (e, f) refl

no_int : is_int (int_div (signed (2 ^ 31)) (signed (2 ^ 32 - 1))) ≡ false
no_int = refl

-- ---- signed

abbrev IsInt : ℤ → Type 0
IsInt z = is_int z ≡ true

word_is_int : (x : ℕ) → x < 2 ^ 32 → IsInt (signed x)
word_is_int x h = grind (arith, ints)

least : (x : ℕ) → x < 2 ^ 32 → signed x ≡ negsuc (2 ^ 31 - 1) → x ≡ 2 ^ 31
least x h e = grind (arith, ints)

minus_one : (y : ℕ) → y < 2 ^ 32 → signed y ≡ negsuc 0 → y ≡ 2 ^ 32 - 1
minus_one y k e = grind (arith, ints)

signed_zero : (y : ℕ) → y < 2 ^ 32 → signed y ≡ pos 0 → y ≡ 0
signed_zero y k e = grind (arith, ints)

-- a quotient of two of them is one, but for the least by -1
quotient_is_int : (a b : ℤ) → IsInt a → b ≢ pos 0 → (a ≡ negsuc (2 ^ 31 - 1) → b ≢ negsuc 0) → IsInt (int_div a b)
quotient_is_int (pos a) (pos b) within some other = grind (arith, ints)
quotient_is_int (pos a) (negsuc b) within some other = grind (arith, ints)
quotient_is_int (negsuc a) (pos b) within some other = grind (arith, ints)
quotient_is_int (negsuc a) (negsuc zero) within some other =
    let not_least : a ≢ 2 ^ 31 - 1 = λ e. other (ap (λ n. negsuc n) e) refl in
    grind (arith, ints)
quotient_is_int (negsuc a) (negsuc (suc b)) within some other =
    let smaller : suc a / suc (suc b) < suc a = div-lt_self {n = suc a} {k = suc (suc b)} (omega arith) (omega arith) in
    grind (arith, ints)

module _ (x y : ℕ) (h : x < 2 ^ 32) (k : y < 2 ^ 32) where
  abbrev quotient : ℤ
  quotient = int_div (signed x) (signed y)

  not_both : tested x y ≢ 0 → signed x ≡ negsuc (2 ^ 31 - 1) → signed y ≢ negsuc 0
  not_both not_zero e f = not_zero (zero_tested x y (least x h e) (minus_one y k f))

  not_nothing : nat_eq y 0 ≡ false → signed y ≢ pos 0
  not_nothing some e = false≢true (sym some ∙ eq-eqb y 0 (signed_zero y k e))

  not_tested : nat_eq (tested x y) 0 ≡ false → tested x y ≢ 0
  not_tested e f = false≢true (sym e ∙ eq-eqb (tested x y) 0 f)

  there : nat_eq y 0 ≡ false → nat_eq (tested x y) 0 ≡ false → (nat_eq y 0 || not (is_int quotient)) ≡ false
  there some fits =
      let held = quotient_is_int (signed x) (signed y) (word_is_int x h) (not_nothing some) (not_both (not_tested fits)) in
      rw (some, held) refl

  absent : nat_eq (tested x y) 0 ≡ true → (nat_eq y 0 || not (is_int quotient)) ≡ true
  absent zero_it =
      let both_are = tested_zero x y k (eqb-true (tested x y) 0 zero_it) in
      rw (both_are.0, both_are.1) refl

  -- where both tests pass
  pub signed_quotient_of : nat_eq y 0 ≡ false → nat_eq (tested x y) 0 ≡ false → machine_table op.DivS (x ∷ y ∷ []) ≡ Some (wrapped quotient)
  unfolding machine_table
  signed_quotient_of some fits = ap (λ b. if b then None else Some (wrapped quotient)) (there some fits)

  pub signed_rest_of : nat_eq y 0 ≡ false → nat_eq (tested x y) 0 ≡ false → machine_table op.ModS (x ∷ y ∷ []) ≡ Some (wrapped (int_rem (signed x) (signed y)))
  unfolding machine_table
  signed_rest_of some fits = ap (λ b. if b then None else Some (wrapped (int_rem (signed x) (signed y)))) (there some fits)

  -- where the first tells
  pub no_signed_quotient : nat_eq y 0 ≡ true → machine_table op.DivS (x ∷ y ∷ []) ≡ None
  unfolding machine_table
  no_signed_quotient none = ap (λ b. if b || not (is_int quotient) then None else Some (wrapped quotient)) none

  pub no_signed_rest : nat_eq y 0 ≡ true → machine_table op.ModS (x ∷ y ∷ []) ≡ None
  unfolding machine_table
  no_signed_rest none = ap (λ b. if b || not (is_int quotient) then None else Some (wrapped (int_rem (signed x) (signed y)))) none

  -- where the second tells
  pub quotient_too_large : nat_eq (tested x y) 0 ≡ true → machine_table op.DivS (x ∷ y ∷ []) ≡ None
  unfolding machine_table
  quotient_too_large e = ap (λ b. if b then None else Some (wrapped quotient)) (absent e)

  pub rest_too_large : nat_eq (tested x y) 0 ≡ true → machine_table op.ModS (x ∷ y ∷ []) ≡ None
  unfolding machine_table
  rest_too_large e = ap (λ b. if b then None else Some (wrapped (int_rem (signed x) (signed y)))) (absent e)

  -- what the instruction divides is edx and eax, where edx is the sign of eax
  pub divided_is : divided (sign_of x) x y ≡ both (machine_table op.DivS (x ∷ y ∷ [])) (machine_table op.ModS (x ∷ y ∷ []))
  divided_is =
      ap (λ b. if b then both (machine_table op.DivS (x ∷ y ∷ [])) (machine_table op.ModS (x ∷ y ∷ [])) else None) (eq-eqb (sign_of x) (sign_of x) refl)

  pub both_answer : nat_eq y 0 ≡ false → nat_eq (tested x y) 0 ≡ false → divided (sign_of x) x y ≡ Some (wrapped quotient, wrapped (int_rem (signed x) (signed y)))
  both_answer some fits = divided_is ∙ (λ i. both (signed_quotient_of some fits i) (signed_rest_of some fits i))
