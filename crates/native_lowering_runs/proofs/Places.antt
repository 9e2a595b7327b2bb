-- Where a block goes on, and what is known there.
use Rattle.std.proofs.Common.{◌≡◌, ℕ, zero, suc, ◌+◌, Bool, true, false, List, [], ◌∷◌, length, Option, Some, None, refl, sym, ap, subst, ◌∙◌, arith}
use Rattle.std.specs.Prelude.{slice_get, if◌then◌else◌}
use Rattle.std.specs.List.{list_any}
use Rattle.std.specs.Option.{option_map}
use Rattle.std.proofs.lemmas.Bool.{eqb-true, eq-eqb}
use Rattle.lang_base.specs.declared.program.Program.{Program}
use Rattle.machine.specs.declared.test.Test.{Test}
use Rattle.linear_language.specs.declared.instruction.Instruction.{Instruction}
use Rattle.linear_language.specs.declared.instruction.Instruction.TheVariants as l
use Rattle.linear_language.specs.Function.{FunctionData}
use Rattle.linear_language.specs.Labels.{label_of, is_label, place_of}
use Rattle.native_lowering_definition.specs.Blocks.{block}
use Rattle.native_lowering_definition.specs.Facts.{Facts, no_facts, after}
use Rattle.native_lowering_definition.specs.Layout.{facts_at, facts_in, place_in}
use Rattle.native_lowering_definition.specs.Lowering.{names, known_at, around_of}
use Rattle.native_lowering_definition.specs.Operating.{Block}
use Rattle.native_lowering_relation.specs.Knowing.{IsSo}
use Rattle.native_lowering_relation.proofs.Knowing.{nothing_so}
use Rattle.native_lowering_layout.proofs.Blocks.{place_next}
use Rattle.native_lowering_runs.proofs.Lists.{any_at}

-- ---- what is known below an instruction

either : (P : Facts → Type 0) (code : List Instruction) (facts : Facts) (i : Instruction) → P facts → P no_facts → P (known_at code facts i)
either P code facts (l.Do act) so none = so
either P code facts (l.Copy step) so none = so
either P code facts (l.Call function arguments target) so none = so
either P code facts (l.Branch test label) so none = so
either P code facts (l.Return value) so none = so
either P code facts (l.Label label) so none = by (list_any (names label) code)
  where
    by : (b : Bool) → P (if b then no_facts else facts)
    by true = none
    by false = so
either P code facts (l.Goto label) so none = so

below_at : (P : Facts → Type 0) (code : List Instruction) (facts : Facts) (is : List Instruction) (n : ℕ) (i : Instruction)
    → slice_get is n ≡ Some i → P (after i (facts_at code facts is n)) → P no_facts → P (facts_at code facts is (suc n))
below_at P code facts [] n i at so none = cc
below_at P code facts (k ∷ []) zero i at so none =
    let same : k ≡ i = cc in
    subst (λ j. P (after j (known_at code facts k))) (sym same) so
below_at P code facts (k ∷ m ∷ is) zero i at so none =
    let same : k ≡ i = cc in
    either P code (after k (known_at code facts k)) m (subst (λ j. P (after j (known_at code facts k))) (sym same) so) none
below_at P code facts (k ∷ is) (suc n) i at so none = below_at P code (after k (known_at code facts k)) is n i at so none

pub known_below : (f : FunctionData) (n m : ℕ) (i : Instruction) (registers : List (Option ℕ)) (flags : Option (ℕ × ℕ)) (words : List ℕ)
    → slice_get f.code n ≡ Some i → m ≡ n + 1 → length registers ≡ 8 → IsSo (after i (facts_in f n)) registers flags words → IsSo (facts_in f m) registers flags words
known_below f n m i registers flags words at e eight so =
    let next : suc n ≡ m = omega arith in
    subst (λ k. IsSo (facts_in f k) registers flags words) next
    (below_at (λ facts. IsSo facts registers flags words) f.code no_facts f.code n i at so (nothing_so registers flags words eight))

-- ---- the place below

pub place_below : (p : Program FunctionData) (f : FunctionData) (n m place : ℕ) (i : Instruction) (b : Block) → slice_get f.code n ≡ Some i → m ≡ n + 1
    → block (around_of p f) (facts_in f n) i ≡ b → place ≡ place_in p f n + length b → place ≡ place_in p f m
place_below p f n m place i b at e is_it there =
    let next : suc n ≡ m = omega arith in
    there ∙ ap (λ (c : Block). place_in p f n + length c) (sym is_it) ∙ sym (place_next p f n i at) ∙ ap (place_in p f) next

-- ---- at a label that is named

pub label_stands : (label : ℕ) (is : List Instruction) (n : ℕ) → place_of label is ≡ Some n → slice_get is n ≡ Some (l.Label label)
label_stands label [] n e = cc
label_stands label (i ∷ is) n e = at (label_stands label is) (is_label label (label_of i)) refl n e
  where
    named_it : (j : Instruction) → is_label label (label_of j) ≡ true → j ≡ l.Label label
    named_it (l.Label k) e = ap (λ n. l.Label n) (eqb-true k label e)
    named_it (l.Do act) e = cc
    named_it (l.Copy step) e = cc
    named_it (l.Call function arguments target) e = cc
    named_it (l.Branch test k) e = cc
    named_it (l.Return value) e = cc
    named_it (l.Goto k) e = cc

    later : ((n : ℕ) → place_of label is ≡ Some n → slice_get is n ≡ Some (l.Label label)) → (o : Option ℕ) → place_of label is ≡ o → (n : ℕ) → option_map suc o ≡ Some n → slice_get (i ∷ is) n ≡ Some (l.Label label)
    later rest None e n f = cc
    later rest (Some k) e zero f = let no : suc k ≡ zero = cc in absurd (omega arith)
    later rest (Some k) e (suc n) f = let same : suc k ≡ suc n = cc in rest n (e ∙ ap (λ m. Some m) (omega (arith, same)))

    at : ((n : ℕ) → place_of label is ≡ Some n → slice_get is n ≡ Some (l.Label label)) → (b : Bool) → is_label label (label_of i) ≡ b → (n : ℕ) → (if b then Some 0 else option_map suc (place_of label is)) ≡ Some n → slice_get (i ∷ is) n ≡ Some (l.Label label)
    at rest true e zero f = ap (λ j. Some j) (named_it i e)
    at rest true e (suc n) f = let no : zero ≡ suc n = cc in absurd (omega arith)
    at rest false e n f = later rest (place_of label is) refl n f

nothing_at : (code : List Instruction) (facts : Facts) (is : List Instruction) (n label : ℕ) → list_any (names label) code ≡ true → slice_get is n ≡ Some (l.Label label) → facts_at code facts is n ≡ no_facts
nothing_at code facts [] n label named at = cc
nothing_at code facts (i ∷ is) zero label named at =
    let same : i ≡ l.Label label = cc in
    ap (known_at code facts) same ∙ ap (λ b. if b then no_facts else facts) named
nothing_at code facts (i ∷ is) (suc n) label named at = nothing_at code (after i (known_at code facts i)) is n label named at

-- nothing is known where a jump or a branch leads
pub nothing_known : (f : FunctionData) (n m label : ℕ) (i : Instruction) → slice_get f.code n ≡ Some i → names label i ≡ true → place_of label f.code ≡ Some m → facts_in f m ≡ no_facts
nothing_known f n m label i at named there =
    nothing_at f.code no_facts f.code m label (any_at (names label) f.code n i at named) (label_stands label f.code m there)

pub goto_names : (label : ℕ) → names label (l.Goto label) ≡ true
goto_names label = eq-eqb label label refl

pub branch_names : (test : Test) (label : ℕ) → names label (l.Branch test label) ≡ true
branch_names test label = eq-eqb label label refl
