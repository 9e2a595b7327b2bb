-- The block of each instruction.
use Rattle.std.proofs.Common.{◌≡◌, ℕ, zero, suc, ◌+◌, List, [], ◌∷◌, ◌++◌, length, Some, refl, ap, subst, ◌∙◌, arith}
use Rattle.std.specs.Prelude.{slice_get}
use Rattle.std.specs.Option.{option_map}
use Rattle.lang_base.specs.declared.program.Program.{Program}
use Rattle.linear_language.specs.declared.instruction.Instruction.{Instruction}
use Rattle.linear_language.specs.Function.{FunctionData}
use Rattle.x86_syntax.specs.declared.instruction.Instruction.{Instruction as Native}
use Rattle.x86_syntax.specs.declared.instruction.Instruction.TheVariants.{Stop}
use Rattle.native_lowering_definition.specs.Blocks.{Around, block, opening}
use Rattle.native_lowering_definition.specs.Facts.{Facts, no_facts, after}
use Rattle.native_lowering_definition.specs.Frames.{frame_of}
use Rattle.native_lowering_definition.specs.Layout.{start, facts_at, facts_in, place_in}
use Rattle.native_lowering_definition.specs.Lowering.{joined, known_at, blocks, around_of, code_of}
use Rattle.native_lowering_definition.specs.Operating.{Block}
use Rattle.native_lowering_layout.proofs.Joined.{get_left, get_right, stands, start_next, start_end}

pub block_at : (around : Around) (facts : Facts) (is : List Instruction) (n : ℕ)
    → slice_get (blocks around facts is) n ≡ option_map (block around (facts_at around.code facts is n)) (slice_get is n)
block_at around facts [] n = refl
block_at around facts (i ∷ is) zero = refl
block_at around facts (i ∷ is) (suc n) = block_at around (after i (known_at around.code facts i)) is n

-- what is known behind an instruction is known at the next
pub facts_next : (code : List Instruction) (facts : Facts) (is : List Instruction) (n : ℕ) (i j : Instruction)
    → slice_get is n ≡ Some i → slice_get is (suc n) ≡ Some j
    → facts_at code facts is (suc n) ≡ known_at code (after i (facts_at code facts is n)) j
facts_next code facts [] n i j here there = cc
facts_next code facts (k ∷ []) zero i j here there = cc
facts_next code facts (k ∷ m ∷ is) zero i j here there =
    let same : k ≡ i = cc in
    let next : m ≡ j = cc in
    rw (same, next) refl
facts_next code facts (k ∷ is) (suc n) i j here there = facts_next code (after k (known_at code facts k)) is n i j here there

count : (around : Around) (facts : Facts) (is : List Instruction) → length (blocks around facts is) ≡ length is
count around facts [] = refl
count around facts (i ∷ is) = ap suc (count around (after i (known_at around.code facts i)) is)

module _ (p : Program FunctionData) (f : FunctionData) where
  abbrev bs : List Block
  bs = blocks (around_of p f) no_facts f.code

  abbrev front : List Native
  front = opening (frame_of f) f.parameters

  -- instruction j of the block of instruction n
  pub stands_in : (n j k : ℕ) (i : Instruction) (native : Native) → slice_get f.code n ≡ Some i
      → slice_get (block (around_of p f) (facts_in f n) i) j ≡ Some native → k ≡ place_in p f n + j → slice_get (code_of p f) k ≡ Some native
  stands_in n j k i native at inside e =
      let here : slice_get bs n ≡ Some (block (around_of p f) (facts_in f n) i) =
      block_at (around_of p f) no_facts f.code n ∙ ap (option_map (block (around_of p f) (facts_in f n))) at in
      get_right front (joined bs ++ Stop ∷ []) (start bs n + j) k (omega arith)
      ∙ get_left (joined bs) (Stop ∷ []) (start bs n + j) native (stands bs n j (start bs n + j) _ native here inside refl)

  -- the block behind it
  pub place_next : (n : ℕ) (i : Instruction) → slice_get f.code n ≡ Some i
      → place_in p f (suc n) ≡ place_in p f n + length (block (around_of p f) (facts_in f n) i)
  place_next n i at =
      let here : slice_get bs n ≡ Some (block (around_of p f) (facts_in f n) i) =
      block_at (around_of p f) no_facts f.code n ∙ ap (option_map (block (around_of p f) (facts_in f n))) at in
      let e = start_next bs n _ here in
      omega arith

  -- behind the last block the run stops
  pub stops_behind : slice_get (code_of p f) (place_in p f (length f.code)) ≡ Some Stop
  stops_behind =
      let all = start_end bs in
      let same = count (around_of p f) no_facts f.code in
      let e : start bs (length f.code) ≡ length (joined bs) = subst (λ n. start bs n ≡ length (joined bs)) same all in
      get_right front (joined bs ++ Stop ∷ []) (start bs (length f.code)) (place_in p f (length f.code)) refl
      ∙ get_right (joined bs) (Stop ∷ []) 0 (start bs (length f.code)) (omega arith)
