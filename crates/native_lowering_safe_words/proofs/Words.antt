-- What keeps words to 32 bits: registers, cells, and what instructions make of words.
use Rattle.std.proofs.Common.{◌≡◌, ◌⊎◌, ℕ, zero, suc, ◌-◌, ◌%◌, ◌<◌, ◌^◌, Bool, true, false, List, [], ◌∷◌, replicate, Option, Some, None, refl, sym, subst, arith, inl, inr, lit<}
use Rattle.std.specs.Prelude.{if◌then◌else◌, nat_lt, slice_index, slice_index_or, slice_set}
use Rattle.std.specs.List.{All}
use Rattle.std.specs.Option.{option_map}
use Rattle.ints.specs.MachineTable.{machine_table}
use Rattle.ints.specs.Words.{flag}
use Rattle.ints.specs.declared.operators.Op.{Op}
use Rattle.ints.specs.declared.operators.Op.TheVariants as op
use Rattle.ints.proofs.Bounds.{machine_table-lt}
use Rattle.x86_syntax.specs.declared.operators.Operator.{Operator}
use Rattle.x86_syntax.specs.declared.operators.Operator.TheVariants.{Add, Sub, Mul, And, Or, Xor}
use Rattle.x86_syntax.specs.declared.operators.Shifting.{Shifting}
use Rattle.x86_syntax.specs.declared.operators.Turning.{Turning}
use Rattle.x86_syntax.specs.declared.operators.Turning.TheVariants.{Neg, Not}
use Rattle.x86_state.specs.Cells.{word_at, kept, shrunk}
use Rattle.x86_state.specs.Tables.{operated, turned, shifted, op_of_shift, sign_of, both, divided, divided_unsigned, with_low_byte}
use Rattle.x86_state.specs.declared.cell.Cell.{Cell}
use Rattle.x86_state.specs.declared.cell.Cell.TheVariants.{Word, Back}
use Rattle.native_lowering_numbers.proofs.Wrapped.{neg_unsigned, not_word, add_unsigned, sub_unsigned, mul_signed, and_words, or_words, xor_words}
use Rattle.native_lowering_ranges.proofs.Words.{same_some, never}
use Rattle.native_lowering_safe_words.specs.InWords.{AreSmall, InCells}

-- ---- registers

either_at : (ws : List ℕ) (r w q : ℕ) → (slice_index (slice_set ws r w) q ≡ slice_index ws q) ⊎ (slice_index (slice_set ws r w) q ≡ w)
either_at [] zero w q = inl refl
either_at [] (suc r) w q = inl refl
either_at (x ∷ ws) zero w zero = inr refl
either_at (x ∷ ws) zero w (suc q) = inl refl
either_at (x ∷ ws) (suc r) w zero = inl refl
either_at (x ∷ ws) (suc r) w (suc q) = either_at ws r w q

pub small_set : (ws : List ℕ) (r w : ℕ) → AreSmall ws → w < 2 ^ 32 → AreSmall (slice_set ws r w)
small_set ws r w small word = λ q. by q (either_at ws r w q)
  where
    by : (q : ℕ) → (slice_index (slice_set ws r w) q ≡ slice_index ws q) ⊎ (slice_index (slice_set ws r w) q ≡ w) → slice_index (slice_set ws r w) q < 2 ^ 32
    by q (inl e) = subst (λ x. x < 2 ^ 32) (sym e) (small q)
    by q (inr e) = subst (λ x. x < 2 ^ 32) (sym e) word

pub zeros_small : (n : ℕ) → AreSmall (replicate n 0)
zeros_small n = λ r. by n r
  where
    by : (n r : ℕ) → slice_index (replicate n 0) r < 2 ^ 32
    by zero zero = lit< tt
    by zero (suc r) = lit< tt
    by (suc n) zero = lit< tt
    by (suc n) (suc r) = by n r

-- ---- cells

pub cell_small : (cells : List Cell) (k w : ℕ) → InCells cells → word_at cells k ≡ Some w → w < 2 ^ 32
cell_small [] zero w small e = cc
cell_small [] (suc k) w small e = cc
cell_small (Word x ∷ cells) zero w small e = subst (λ y. y < 2 ^ 32) (same_some x w e) small.0
cell_small (Back to ∷ cells) zero w small e = cc
cell_small (Word x ∷ cells) (suc k) w small e = cell_small cells k w small.1 e
cell_small (Back to ∷ cells) (suc k) w small e = cell_small cells k w small e

cells_set : (cells : List Cell) (k w : ℕ) → InCells cells → w < 2 ^ 32 → InCells (slice_set cells k (Word w))
cells_set [] zero w small word = tt
cells_set [] (suc k) w small word = tt
cells_set (Word x ∷ cells) zero w small word = (word, small.1)
cells_set (Back to ∷ cells) zero w small word = (word, small)
cells_set (Word x ∷ cells) (suc k) w small word = (small.0, cells_set cells k w small.1 word)
cells_set (Back to ∷ cells) (suc k) w small word = cells_set cells k w small word

pub cells_kept : (cells after : List Cell) (k w : ℕ) → InCells cells → w < 2 ^ 32 → kept k w cells ≡ Some after → InCells after
cells_kept cells after k w small word e = by (word_at cells k) e
  where
    by : (o : Option ℕ) → option_map (λ before. slice_set cells k (Word w)) o ≡ Some after → InCells after
    by None e = never (InCells after) after e
    by (Some x) e = subst InCells (same_some _ after e) (cells_set cells k w small word)

pub cells_shrunk : (n : ℕ) (cells after : List Cell) → InCells cells → shrunk n cells ≡ Some after → InCells after
cells_shrunk zero cells after small e = subst InCells (same_some cells after e) small
cells_shrunk (suc n) [] after small e = never (InCells after) after e
cells_shrunk (suc n) (Word w ∷ cells) after small e = cells_shrunk n cells after small.1 e
cells_shrunk (suc n) (Back to ∷ cells) after small e = never (InCells after) after e

-- ---- what is made of words

one_word : (x : ℕ) → x < 2 ^ 32 → All (λ y. y < 2 ^ 32) (x ∷ [])
one_word x h = λ k d within. by k d within
  where
    by : (k d : ℕ) → k < 1 → slice_index_or (x ∷ []) k d < 2 ^ 32
    by zero d within = h
    by (suc k) d within = absurd (omega arith)

two_words : (x y : ℕ) → x < 2 ^ 32 → y < 2 ^ 32 → All (λ z. z < 2 ^ 32) (x ∷ y ∷ [])
two_words x y h h' = λ k d within. by k d within
  where
    by : (k d : ℕ) → k < 2 → slice_index_or (x ∷ y ∷ []) k d < 2 ^ 32
    by zero d within = h
    by (suc zero) d within = h'
    by (suc (suc k)) d within = absurd (omega arith)

pub turned_small : (t : Turning) (x : ℕ) → x < 2 ^ 32 → turned t x < 2 ^ 32
turned_small Neg x h = machine_table-lt op.NegU (x ∷ []) (turned Neg x) (one_word x h) (neg_unsigned x h)
turned_small Not x h = machine_table-lt op.Not (x ∷ []) (turned Not x) (one_word x h) (not_word x h)

module _ (x y : ℕ) (h : x < 2 ^ 32) (k : y < 2 ^ 32) where
  made_small : (o : Op) (w : ℕ) → machine_table o (x ∷ y ∷ []) ≡ Some w → w < 2 ^ 32
  made_small o w e = machine_table-lt o (x ∷ y ∷ []) w (two_words x y h k) e

  pub operated_small : (o : Operator) → operated o x y < 2 ^ 32
  operated_small Add = made_small op.AddU (operated Add x y) (add_unsigned x y h k)
  operated_small Sub = made_small op.SubU (operated Sub x y) (sub_unsigned x y h k)
  operated_small Mul = made_small op.MulS (operated Mul x y) (mul_signed x y h k)
  operated_small And = made_small op.And (operated And x y) (and_words x y h k)
  operated_small Or = made_small op.Or (operated Or x y) (or_words x y h k)
  operated_small Xor = made_small op.Xor (operated Xor x y) (xor_words x y h k)

  pub shifted_small : (s : Shifting) (w : ℕ) → shifted s x y ≡ Some w → w < 2 ^ 32
  shifted_small s w e = made_small (op_of_shift s) w e

  -- both, where there are both
  abbrev AreBoth : Option (ℕ × ℕ) → Type 0
  AreBoth o = (pair : ℕ × ℕ) → o ≡ Some pair → (pair.0 < 2 ^ 32) × (pair.1 < 2 ^ 32)

  both_small : (first second : Op) (o q : Option ℕ) → machine_table first (x ∷ y ∷ []) ≡ o → machine_table second (x ∷ y ∷ []) ≡ q → AreBoth (both o q)
  both_small first second None q left right = λ pair e. never _ pair e
  both_small first second (Some v) None left right = λ pair e. never _ pair e
  both_small first second (Some v) (Some w) left right = λ pair e.
      let same : (v, w) ≡ pair = same_some (v, w) pair e in
      subst (λ (z : ℕ × ℕ). (z.0 < 2 ^ 32) × (z.1 < 2 ^ 32)) same (made_small first v left, made_small second w right)

  both_if : (b : Bool) (o : Option (ℕ × ℕ)) → AreBoth o → AreBoth (if b then o else None)
  both_if true o each = each
  both_if false o each = λ pair e. never _ pair e

  pub divided_small : (high : ℕ) (pair : ℕ × ℕ) → divided high x y ≡ Some pair → (pair.0 < 2 ^ 32) × (pair.1 < 2 ^ 32)
  divided_small high = both_if _ _ (both_small op.DivS op.ModS _ _ refl refl)

  pub divided_unsigned_small : (high : ℕ) (pair : ℕ × ℕ) → divided_unsigned high x y ≡ Some pair → (pair.0 < 2 ^ 32) × (pair.1 < 2 ^ 32)
  divided_unsigned_small high = both_if _ _ (both_small op.DivU op.ModU _ _ refl refl)

pub sign_small : (w : ℕ) → sign_of w < 2 ^ 32
sign_small w = by (nat_lt w (2 ^ 31))
  where
    by : (b : Bool) → (if b then 0 else 2 ^ 32 - 1) < 2 ^ 32
    by true = lit< tt
    by false = lit< tt

pub flag_small : (answer : Bool) → flag answer < 2 ^ 32
flag_small true = lit< tt
flag_small false = lit< tt

pub low_byte_small : (w : ℕ) (answer : Bool) → w < 2 ^ 32 → with_low_byte w (flag answer) < 2 ^ 32
low_byte_small w true h = omega arith
low_byte_small w false h = omega arith

pub byte_small : (w : ℕ) → w % 256 < 2 ^ 32
byte_small w = omega arith
