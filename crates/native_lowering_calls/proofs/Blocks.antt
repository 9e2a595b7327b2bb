-- The block of a call that a function takes: arguments, the call, the result.
use Rattle.std.proofs.Common.{◌≡◌, ℕ, ◌+◌, List, [], ◌∷◌, ◌++◌, length, Option, Some, refl, sym, ap, ◌∙◌, arith, append_assoc}
use Rattle.std.specs.Prelude.{slice_get, if◌then◌else◌}
use Rattle.std.proofs.lemmas.Bool.{eq-eqb}
use Rattle.lang_base.specs.declared.program.Program.{Program}
use Rattle.locations.specs.declared.location.Location.{Location}
use Rattle.linear_language.specs.declared.instruction.Instruction.TheVariants as l
use Rattle.linear_language.specs.Function.{FunctionData}
use Rattle.x86_syntax.specs.declared.instruction.Instruction.TheVariants.{Call, Stop}
use Rattle.native_lowering_definition.specs.Blocks.{block, calls_as, gets, arity_of}
use Rattle.native_lowering_definition.specs.Frames.{Frame, frame_of}
use Rattle.native_lowering_definition.specs.Layout.{facts_in, place_in}
use Rattle.native_lowering_definition.specs.Lowering.{around_of, code_of}
use Rattle.native_lowering_definition.specs.Moving.{passes}
use Rattle.native_lowering_definition.specs.Operating.{Block}
use Rattle.native_lowering_layout.proofs.Blocks.{stands_in}
use Rattle.native_lowering_layout.proofs.Joined.{get_left, get_right}
use Rattle.native_lowering_walks.specs.Walks.{StandAt}

-- up to the call
abbrev pub calling : Frame → ℕ → List Location → Block
calling frame callee arguments = passes frame arguments ++ Call callee ∷ []

module _ (p : Program FunctionData) (f : FunctionData) (n callee : ℕ) (arguments : List Location) (target : Option Location) where
  abbrev whole : Block
  whole = passes (frame_of f) arguments ++ Call callee ∷ gets (frame_of f) target

  pub call_block : (count : ℕ) → arity_of (around_of p f) callee ≡ Some count → length arguments ≡ count → block (around_of p f) (facts_in f n) (l.Call callee arguments target) ≡ whole
  call_block count takes same = ap (calls_as (frame_of f) callee arguments target) takes
      ∙ ap (λ b. if b then whole else Stop ∷ []) (eq-eqb (length arguments) count same)

  pub calling_stands : (count place : ℕ) → arity_of (around_of p f) callee ≡ Some count → length arguments ≡ count → slice_get f.code n ≡ Some (l.Call callee arguments target) → place ≡ place_in p f n
      → StandAt (calling (frame_of f) callee arguments) place (code_of p f)
  calling_stands count place takes same at start = λ j i inside.
      stands_in p f n j (place + j) (l.Call callee arguments target) i at
      (ap (λ (b : Block). slice_get b j) (call_block count takes same)
      ∙ ap (λ (b : Block). slice_get b j) (sym (append_assoc (passes (frame_of f) arguments) (Call callee ∷ []) (gets (frame_of f) target)))
      ∙ get_left (calling (frame_of f) callee arguments) (gets (frame_of f) target) j i inside)
      (ap (λ m. m + j) start)

  pub getting_stands : (count place : ℕ) → arity_of (around_of p f) callee ≡ Some count → length arguments ≡ count → slice_get f.code n ≡ Some (l.Call callee arguments target)
      → place ≡ place_in p f n + (length (passes (frame_of f) arguments) + 1) → StandAt (gets (frame_of f) target) place (code_of p f)
  getting_stands count place takes same at start = λ j i inside.
      let k = length (passes (frame_of f) arguments) + (1 + j) in
      stands_in p f n k (place + j) (l.Call callee arguments target) i at
      (ap (λ (b : Block). slice_get b k) (call_block count takes same)
      ∙ get_right (passes (frame_of f) arguments) (Call callee ∷ gets (frame_of f) target) (1 + j) k refl
      ∙ get_right (Call callee ∷ []) (gets (frame_of f) target) j (1 + j) (omega arith)
      ∙ inside)
      (omega (arith, start))
