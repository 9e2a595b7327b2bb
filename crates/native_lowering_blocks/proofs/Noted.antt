-- Flags of labels, as the instructions of a code are gone over.
use Rattle.std.proofs.Common.{◌≡◌, ◌≢◌, ℕ, ◌+◌, ◌<◌, ◌≤◌, ◌^◌, Bool, true, false, List, [], ◌∷◌, length, drop, get_or, Option, Some, None, refl, sym, ap, subst, ◌∙◌, arith}
use Rattle.std.specs.Prelude.{nat_eq, slice_set, slice_index_or, replicate, ◌||◌}
use Rattle.std.proofs.lemmas.Bool.{eqb-true, eq-eqb}
use Rattle.std.proofs.lemmas.List.{length-set, get_or-set_same, get_or-set_other, length-replicate, get_or-replicate, at_drop_more, drop_all}
use Rattle.linear_language.specs.declared.instruction.Instruction.{Instruction}
use Rattle.linear_language.specs.Labels.{is_label}
use Rattle.native_lowering_blocks.specs.Noted.{AreClear, AreNoted, Notes}

or_false : (a : Bool) → a ≡ (a || false)
or_false true = refl
or_false false = refl

or_true : (a : Bool) → true ≡ (a || true)
or_true true = refl
or_true false = refl

or_assoc : (a b c : Bool) → ((a || b) || c) ≡ (a || (b || c))
or_assoc true b c = refl
or_assoc false b c = refl

-- new flags
pub clear : (n : ℕ) (flags : List Bool) → n ≡ 2 ^ 16 → flags ≡ replicate n false → AreClear flags
clear n flags all e = record {
  full = ap length e ∙ length-replicate n false ∙ all;
  each = λ l small. let lt : l < n = omega arith in ap (λ fs. slice_index_or fs l false) e ∙ get_or-replicate n l false false lt;
}

-- no flag is set before the first
pub none_noted : (found : ℕ → List Instruction → Bool) (code : List Instruction) (flags : List Bool) → AreClear flags → AreNoted found code code flags
none_noted found code flags clean = record {
  full = clean.full;
  each = λ l small. ap (λ f. f || found l code) (clean.each l small);
}

-- there is no label
pub none : (flags : List Bool) → Notes None flags flags
none flags = record { full = λ e. e; each = λ l full small. or_false (slice_index_or flags l false) }

set_at : (flags : List Bool) (k l : ℕ) (b : Bool) → k < length flags → nat_eq k l ≡ b → slice_index_or (slice_set flags k true) l false ≡ (slice_index_or flags l false || b)
set_at flags k l true lt e =
    subst (λ n. slice_index_or (slice_set flags k true) n false ≡ true) (eqb-true k l e) (get_or-set_same flags k true false lt) ∙ or_true (slice_index_or flags l false)
set_at flags k l false lt e =
    let ne : l ≢ k = λ is. let same : nat_eq k l ≡ true = eq-eqb k l (sym is) in absurd cc in
    get_or-set_other flags k l true false ne ∙ or_false (slice_index_or flags l false)

-- the flag of a label is set
pub one : (flags : List Bool) (k : ℕ) → k < 2 ^ 16 → Notes (Some k) flags (slice_set flags k true)
one flags k low = record {
  full = λ e. length-set flags k true ∙ e;
  each = λ l full small. set_at flags k l (nat_eq k l) (subst (λ n. k < n) (sym full) low) refl;
}

-- so the flags tell of one instruction more
pub noted : (found : ℕ → List Instruction → Bool) (label : Option ℕ) (i : Instruction) (rest whole : List Instruction) (before after : List Bool)
    → ((l : ℕ) → found l (i ∷ rest) ≡ (is_label l label || found l rest))
    → AreNoted found (i ∷ rest) whole before → Notes label before after → AreNoted found rest whole after
noted found label i rest whole before after is so one = record {
  full = one.full so.full;
  each = λ l small.
      ap (λ f. f || found l rest) (one.each l so.full small)
      ∙ or_assoc (slice_index_or before l false) (is_label l label) (found l rest)
      ∙ ap (λ f. slice_index_or before l false || f) (sym (is l))
      ∙ so.each l small;
}

-- at a place of the code
pub next : (found : ℕ → List Instruction → Bool) (label_in : Instruction → Option ℕ) (code : List Instruction) (n : ℕ) (i : Instruction) (before after : List Bool)
    → ((l : ℕ) (i : Instruction) (rest : List Instruction) → found l (i ∷ rest) ≡ (is_label l (label_in i) || found l rest))
    → n < length code → i ≡ get_or code n i → AreNoted found (drop n code) code before → Notes (label_in i) before after → AreNoted found (drop (n + 1) code) code after
next found label_in code n i before after is below here so one =
    let rest = drop (n + 1) code in
    let split : drop n code ≡ i ∷ rest = at_drop_more (λ r. r) code n i below ∙ ap (λ x. x ∷ rest) (sym here) in
    noted found (label_in i) i rest code before after (λ l. is l i rest) (subst (λ r. AreNoted found r code before) split so) one

-- behind the last
pub last : (found : ℕ → List Instruction → Bool) (code : List Instruction) (n : ℕ) (flags : List Bool) → length code ≤ n → AreNoted found (drop n code) code flags → AreNoted found [] code flags
last found code n flags past so = subst (λ r. AreNoted found r code flags) (drop_all n code past) so

-- at the end a flag is what is found
pub told : (found : ℕ → List Instruction → Bool) (whole : List Instruction) (flags : List Bool) (l : ℕ) → found l [] ≡ false → l < 2 ^ 16
    → AreNoted found [] whole flags → slice_index_or flags l false ≡ found l whole
told found whole flags l none small so = or_false (slice_index_or flags l false) ∙ ap (λ f. slice_index_or flags l false || f) (sym none) ∙ so.each l small
