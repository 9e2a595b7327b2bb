-- Sums, differences, products and negatives of words: whether these are read as signed changes nothing in the low 32 bits.
use Rattle.std.proofs.Common.{◌≡◌, ℕ, ◌^◌, ◌<◌, [], ◌∷◌, Some, refl, sym, ap, ◌∙◌, pos, ◌+ℤ◌, ◌-ℤ◌, ◌*ℤ◌, neg_ℤ, arith}
use Rattle.std.proofs.lemmas.Int.{ints}
use Rattle.ints.specs.MachineTable.{machine_table}
use Rattle.ints.specs.Words.{signed, wrapped}
use Rattle.ints.specs.declared.operators.Op.TheVariants as op
use Rattle.ints.proofs.Wrapping.{wrapped-mul_left, wrapped-mul_right}
use Rattle.x86_syntax.specs.declared.operators.Operator.TheVariants.{Add, Sub, Mul, And, Or, Xor}
use Rattle.x86_syntax.specs.declared.operators.Turning.TheVariants.{Neg, Not}
use Rattle.x86_state.specs.Tables.{operated, turned}

sum_wraps : (x y : ℕ) → x < 2 ^ 32 → y < 2 ^ 32 → wrapped (signed x +ℤ signed y) ≡ wrapped (pos x +ℤ pos y)
sum_wraps x y h k = grind (arith, ints)

difference_wraps : (x y : ℕ) → x < 2 ^ 32 → y < 2 ^ 32 → wrapped (signed x -ℤ signed y) ≡ wrapped (pos x -ℤ pos y)
difference_wraps x y h k = grind (arith, ints)

negative_wraps : (x : ℕ) → x < 2 ^ 32 → wrapped (neg_ℤ (signed x)) ≡ wrapped (neg_ℤ (pos x))
negative_wraps x h = grind (arith, ints)

product_wraps : (x y : ℕ) → x < 2 ^ 32 → y < 2 ^ 32 → wrapped (pos x *ℤ pos y) ≡ wrapped (signed x *ℤ signed y)
product_wraps x y h k = sym (wrapped-mul_left x (signed y) h ∙ wrapped-mul_right (pos x) y k)

module _ (x : ℕ) (h : x < 2 ^ 32) where
  pub neg_signed : machine_table op.NegS (x ∷ []) ≡ Some (turned Neg x)
  unfolding machine_table turned
  neg_signed = ap (λ w. Some w) (negative_wraps x h)

  pub neg_unsigned : machine_table op.NegU (x ∷ []) ≡ Some (turned Neg x)
  unfolding machine_table turned
  neg_unsigned = refl

  pub not_word : machine_table op.Not (x ∷ []) ≡ Some (turned Not x)
  unfolding machine_table turned
  not_word = refl

module _ (x y : ℕ) (h : x < 2 ^ 32) (k : y < 2 ^ 32) where
  pub add_signed : machine_table op.AddS (x ∷ y ∷ []) ≡ Some (operated Add x y)
  unfolding machine_table operated
  add_signed = ap (λ w. Some w) (sum_wraps x y h k)

  pub add_unsigned : machine_table op.AddU (x ∷ y ∷ []) ≡ Some (operated Add x y)
  unfolding machine_table operated
  add_unsigned = refl

  pub sub_signed : machine_table op.SubS (x ∷ y ∷ []) ≡ Some (operated Sub x y)
  unfolding machine_table operated
  sub_signed = ap (λ w. Some w) (difference_wraps x y h k)

  pub sub_unsigned : machine_table op.SubU (x ∷ y ∷ []) ≡ Some (operated Sub x y)
  unfolding machine_table operated
  sub_unsigned = refl

  pub mul_signed : machine_table op.MulS (x ∷ y ∷ []) ≡ Some (operated Mul x y)
  unfolding machine_table operated
  mul_signed = refl

  pub mul_unsigned : machine_table op.MulU (x ∷ y ∷ []) ≡ Some (operated Mul x y)
  unfolding machine_table operated
  mul_unsigned = ap (λ w. Some w) (product_wraps x y h k)

  pub and_words : machine_table op.And (x ∷ y ∷ []) ≡ Some (operated And x y)
  unfolding machine_table operated
  and_words = refl

  pub or_words : machine_table op.Or (x ∷ y ∷ []) ≡ Some (operated Or x y)
  unfolding machine_table operated
  or_words = refl

  pub xor_words : machine_table op.Xor (x ∷ y ∷ []) ≡ Some (operated Xor x y)
  unfolding machine_table operated
  xor_words = refl
