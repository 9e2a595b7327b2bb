-- Each label stands where its block is, and no other stands anywhere.
use Rattle.std.proofs.Common.{◌≡◌, ℕ, suc, ◌+◌, Bool, true, false, List, [], ◌∷◌, ◌++◌, length, Option, Some, None, refl, sym, ap, ◌∙◌, arith, append_assoc}
use Rattle.std.specs.Prelude.{if◌then◌else◌, nat_eq}
use Rattle.std.specs.Option.{option_map}
use Rattle.lang_base.specs.declared.program.Program.{Program}
use Rattle.linear_language.specs.declared.instruction.Instruction.{Instruction}
use Rattle.linear_language.specs.declared.instruction.Instruction.TheVariants as l
use Rattle.linear_language.specs.Function.{FunctionData}
use Rattle.linear_language.specs.Labels.{place_of as linear_place_of}
use Rattle.x86_syntax.specs.Labels.{label_of, is_label, place_of}
use Rattle.x86_syntax.specs.declared.instruction.Instruction.TheVariants.{Label, Stop}
use Rattle.native_lowering_definition.specs.Blocks.{Around, opening}
use Rattle.native_lowering_definition.specs.Facts.{Facts, no_facts, after}
use Rattle.native_lowering_definition.specs.Frames.{frame_of}
use Rattle.native_lowering_definition.specs.Layout.{start, place_in}
use Rattle.native_lowering_definition.specs.Lowering.{joined, known_at, blocks, around_of, code_of}
use Rattle.native_lowering_definition.specs.Operating.{Block}
use Rattle.native_lowering_layout.proofs.Free.{IsFree}
use Rattle.native_lowering_layout.proofs.FreeBlocks.{free_block, free_opening}

map_zero : (o : Option ℕ) → option_map (λ k. 0 + k) o ≡ o
map_zero None = refl
map_zero (Some k) = ap (λ n. Some n) (omega arith)

map_suc : (n : ℕ) (o : Option ℕ) → option_map suc (option_map (λ k. n + k) o) ≡ option_map (λ k. suc n + k) o
map_suc n None = refl
map_suc n (Some k) = ap (λ m. Some m) (omega arith)

map_map : (n : ℕ) (f : ℕ → ℕ) (g : ℕ → ℕ) → ((k : ℕ) → n + f k ≡ g (suc k)) → (o : Option ℕ) → option_map (λ k. n + k) (option_map f o) ≡ option_map g (option_map suc o)
map_map n f g same None = refl
map_map n f g same (Some k) = ap (λ m. Some m) (same k)

map_after : (f g : ℕ → ℕ) → ((k : ℕ) → suc (f k) ≡ g (suc k)) → (o : Option ℕ) → option_map suc (option_map f o) ≡ option_map g (option_map suc o)
map_after f g same None = refl
map_after f g same (Some k) = ap (λ m. Some m) (same k)

map_both : (n : ℕ) (f : ℕ → ℕ) (o : Option ℕ) → option_map (λ k. n + k) (option_map f o) ≡ option_map (λ k. n + f k) o
map_both n f None = refl
map_both n f (Some k) = refl

-- behind what has no label
pub place_behind : (label : ℕ) (xs ys : Block) → IsFree xs → place_of label (xs ++ ys) ≡ option_map (λ k. length xs + k) (place_of label ys)
place_behind label [] ys free = sym (map_zero (place_of label ys))
place_behind label (x ∷ xs) ys free =
    ap (λ o. if is_label label o then Some 0 else option_map suc (place_of label (xs ++ ys))) free.0
    ∙ ap (option_map suc) (place_behind label xs ys free.1)
    ∙ map_suc (length xs) (place_of label ys)

-- nowhere in what has none
pub place_nowhere : (label : ℕ) (xs : Block) → IsFree xs → place_of label xs ≡ None
place_nowhere label [] free = refl
place_nowhere label (x ∷ xs) free =
    ap (λ o. if is_label label o then Some 0 else option_map suc (place_of label xs)) free.0 ∙ ap (option_map suc) (place_nowhere label xs free.1)

-- at a label's block: the label is this one, or another
at_label : (b : Bool) (native linear : Option ℕ) (f : ℕ → ℕ) → f 0 ≡ 0 → option_map suc native ≡ option_map f (option_map suc linear)
    → (if b then Some 0 else option_map suc native) ≡ option_map f (if b then Some 0 else option_map suc linear)
at_label true native linear f first rest = ap (λ n. Some n) (sym first)
at_label false native linear f first rest = rest

module _ (label : ℕ) (around : Around) (rest : Block) (free : IsFree rest) where
  abbrev Stands : Facts → List Instruction → Type 0
  Stands facts is = place_of label (joined (blocks around facts is) ++ rest) ≡ option_map (start (blocks around facts is)) (linear_place_of label is)

  behind : (b : Block) (bs : List Block) (o : Option ℕ) → IsFree b → place_of label (joined bs ++ rest) ≡ option_map (start bs) o
      → place_of label (joined (b ∷ bs) ++ rest) ≡ option_map (start (b ∷ bs)) (option_map suc o)
  behind b bs o none so =
      ap (place_of label) (append_assoc b (joined bs) rest)
      ∙ place_behind label b (joined bs ++ rest) none
      ∙ ap (option_map (λ k. length b + k)) so
      ∙ map_map (length b) (start bs) (start (b ∷ bs)) (λ k. refl) o

  pub labels_stand : (facts : Facts) (is : List Instruction) → Stands facts is
  unfolding label_of
  labels_stand facts [] = place_nowhere label rest free
  labels_stand facts (l.Do act ∷ is) =
      behind _ (blocks around (after (l.Do act) facts) is) (linear_place_of label is) (free_block around facts (l.Do act) refl) (labels_stand (after (l.Do act) facts) is)
  labels_stand facts (l.Copy step ∷ is) =
      behind _ (blocks around (after (l.Copy step) facts) is) (linear_place_of label is) (free_block around facts (l.Copy step) refl) (labels_stand (after (l.Copy step) facts) is)
  labels_stand facts (l.Call function arguments target ∷ is) =
      behind _ (blocks around no_facts is) (linear_place_of label is) (free_block around facts (l.Call function arguments target) refl) (labels_stand no_facts is)
  labels_stand facts (l.Branch test to ∷ is) =
      behind _ (blocks around (after (l.Branch test to) facts) is) (linear_place_of label is) (free_block around facts (l.Branch test to) refl) (labels_stand (after (l.Branch test to) facts) is)
  labels_stand facts (l.Return value ∷ is) =
      behind _ (blocks around (after (l.Return value) facts) is) (linear_place_of label is) (free_block around facts (l.Return value) refl) (labels_stand (after (l.Return value) facts) is)
  labels_stand facts (l.Goto to ∷ is) =
      behind _ (blocks around (after (l.Goto to) facts) is) (linear_place_of label is) (free_block around facts (l.Goto to) refl) (labels_stand (after (l.Goto to) facts) is)
  labels_stand facts (l.Label here ∷ is) =
      let behind_it = known_at around.code facts (l.Label here) in
      let bs = blocks around behind_it is in
      at_label (nat_eq here label) (place_of label (joined bs ++ rest)) (linear_place_of label is) (start ((Label here ∷ []) ∷ bs)) refl
      (ap (option_map suc) (labels_stand behind_it is) ∙ map_after (start bs) (start ((Label here ∷ []) ∷ bs)) (λ k. omega arith) (linear_place_of label is))

-- a label of a function's code
pub label_in : (p : Program FunctionData) (f : FunctionData) (label : ℕ) → place_of label (code_of p f) ≡ option_map (place_in p f) (linear_place_of label f.code)
unfolding label_of
label_in p f label =
    let bs = blocks (around_of p f) no_facts f.code in
    let front = opening (frame_of f) f.parameters in
    place_behind label front (joined bs ++ Stop ∷ []) (free_opening (frame_of f) f.parameters)
    ∙ ap (option_map (λ k. length front + k)) (labels_stand label (around_of p f) (Stop ∷ []) (refl, tt) no_facts f.code)
    ∙ map_both (length front) (start bs) (linear_place_of label f.code)
