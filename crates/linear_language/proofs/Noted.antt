-- What the flags say as instructions are put behind others.
use Rattle.std.proofs.Common.{◌≡◌, ◌≢◌, ℕ, ◌<◌, ◌^◌, Bool, true, false, List, [], ◌∷◌, ◌++◌, length, Option, Some, None, refl, sym, ap, subst, ◌∙◌, arith}
use Rattle.std.specs.Prelude.{◌||◌, nat_eq, slice_set, slice_index_or, replicate}
use Rattle.std.proofs.lemmas.Bool.{eqb-true, eq-eqb}
use Rattle.std.proofs.lemmas.List.{length-set, get_or-set_same, get_or-set_other, append-nil, length-replicate, get_or-replicate}
use Rattle.std.proofs.lemmas.List.Folds.{list_any-append}
use Rattle.linear_language.specs.declared.instruction.Instruction.{Instruction}
use Rattle.linear_language.specs.Labels.{label_of, label_before, labels_of}
use Rattle.linear_language.specs.Reading.{stands}
use Rattle.linear_language.specs.Flags.{Flags}

before-append : (o : Option ℕ) (ks ls : List ℕ) → label_before o ks ++ ls ≡ label_before o (ks ++ ls)
before-append None ks ls = refl
before-append (Some l) ks ls = refl

labels_of-push : (before : List Instruction) (i : Instruction) → labels_of (before ++ i ∷ []) ≡ labels_of before ++ label_before (label_of i) []
labels_of-push [] i = refl
labels_of-push (j ∷ before) i = ap (label_before (label_of j)) (labels_of-push before i) ∙ sym (before-append (label_of j) (labels_of before) (label_before (label_of i) []))

or_true : (b : Bool) → (b || (true || false)) ≡ true
or_true true = refl
or_true false = refl

or_false : (b : Bool) → (b || (false || false)) ≡ b
or_false true = refl
or_false false = refl

-- one flag more is set
flag_at : (flags : List Bool) (ls : List ℕ) (l k : ℕ) (b : Bool) → l < length flags → slice_index_or flags k false ≡ stands k ls → nat_eq l k ≡ b → slice_index_or (slice_set flags l true) k false ≡ stands k (ls ++ l ∷ [])
flag_at flags ls l k true lt said e =
    let is : l ≡ k = eqb-true l k e in
    let set : slice_index_or (slice_set flags l true) k false ≡ true = subst (λ n. slice_index_or (slice_set flags l true) n false ≡ true) is (get_or-set_same flags l true false lt) in
    let stand : stands k (ls ++ l ∷ []) ≡ true = rw (list_any-append (λ (n : ℕ). nat_eq n k) ls (l ∷ []), e) (or_true (stands k ls)) in
    set ∙ sym stand
flag_at flags ls l k false lt said e =
    let ne : k ≢ l = λ is. let same : nat_eq l k ≡ true = eq-eqb l k (sym is) in absurd cc in
    let stand : stands k (ls ++ l ∷ []) ≡ stands k ls = rw (list_any-append (λ (n : ℕ). nat_eq n k) ls (l ∷ []), e) (or_false (stands k ls)) in
    get_or-set_other flags l k true false ne ∙ said ∙ sym stand

flags_put : (flags : List Bool) (ls : List ℕ) (l : ℕ) → l < length flags → Flags flags ls → Flags (slice_set flags l true) (ls ++ l ∷ [])
flags_put flags ls l lt f = record {
  full = length-set flags l true ∙ f.full;
  each = λ k small. flag_at flags ls l k (nat_eq l k) lt (f.each k small) refl;
}

-- behind an instruction that is a label
pub noted : (flags : List Bool) (before : List Instruction) (i : Instruction) (l : ℕ) → label_of i ≡ Some l → l < length flags → Flags flags (labels_of before) → Flags (slice_set flags l true) (labels_of (before ++ i ∷ []))
noted flags before i l is lt f =
    let all : labels_of (before ++ i ∷ []) ≡ labels_of before ++ l ∷ [] = labels_of-push before i ∙ ap (λ o. labels_of before ++ label_before o []) is in
    subst (Flags (slice_set flags l true)) (sym all) (flags_put flags (labels_of before) l lt f)

-- behind another
pub kept : (flags : List Bool) (before : List Instruction) (i : Instruction) → label_of i ≡ None → Flags flags (labels_of before) → Flags flags (labels_of (before ++ i ∷ []))
kept flags before i is f =
    let all : labels_of (before ++ i ∷ []) ≡ labels_of before = labels_of-push before i ∙ ap (λ o. labels_of before ++ label_before o []) is ∙ append-nil (labels_of before) in
    subst (Flags flags) (sym all) f

-- where no flag is set
pub none_stand : (n : ℕ) (flags : List Bool) → n ≡ 2 ^ 16 → flags ≡ replicate n false → Flags flags []
none_stand n flags all e = record {
  full = ap length e ∙ length-replicate n false ∙ all;
  each = λ l small. let lt : l < n = omega arith in ap (λ fs. slice_index_or fs l false) e ∙ get_or-replicate n l false false lt;
}
