-- The words in the code of each function of a native program have 32 bits.
use Rattle.std.proofs.Common.{◌≡◌, ℕ, zero, suc, List, [], ◌∷◌, map, Some, refl, subst}
use Rattle.std.specs.Prelude.{slice_get}
use Rattle.std.specs.List.{AllByRecursion}
use Rattle.lang_base.specs.declared.program.Named.{Named}
use Rattle.lang_base.specs.declared.program.Program.{Program}
use Rattle.linear_language.specs.declared.instruction.Instruction.{Instruction}
use Rattle.linear_language.specs.Function.{FunctionData, InstructionFits, IsFunction}
use Rattle.x86_syntax.specs.declared.function.Function.{Function}
use Rattle.x86_syntax.specs.declared.instruction.Instruction.TheVariants.{Stop}
use Rattle.native_lowering_definition.specs.Blocks.{Around, block, opening}
use Rattle.native_lowering_definition.specs.Facts.{Facts, no_facts, after}
use Rattle.native_lowering_definition.specs.Frames.{frame_of}
use Rattle.native_lowering_definition.specs.Lowering.{known_at, blocks, joined, around_of, code_of, function_of, lowered}
use Rattle.native_lowering_ranges.specs.Range.{AreWords}
use Rattle.native_lowering_ranges.proofs.Words.{none_words}
use Rattle.native_lowering_runs.specs.Reaching.{AreFunctions}
use Rattle.native_lowering_safe_words.specs.Narrow.{AreNarrow}
use Rattle.native_lowering_safe_words.proofs.Knowing.{known_behind, known_there}
use Rattle.native_lowering_safe_words.proofs.Moves.{narrow_both}
use Rattle.native_lowering_safe_words.proofs.Blocks.{narrow_block, narrow_opening}

narrow_blocks : (around : Around) (slots : ℕ) (facts : Facts) (is : List Instruction) → AreWords facts.words → AllByRecursion (InstructionFits slots) is → AreNarrow (joined (blocks around facts is))
narrow_blocks around slots facts [] words fits = tt
narrow_blocks around slots facts (i ∷ is) words fits =
    let here : Facts = known_at around.code facts i in
    let there = known_there facts words around.code i in
    narrow_both (block around here i) _ (narrow_block around here slots i fits.0 there)
    (narrow_blocks around slots (after i here) is (known_behind here there slots i fits.0) fits.1)

pub narrow_code : (p : Program FunctionData) (f : FunctionData) → IsFunction f → AreNarrow (code_of p f)
narrow_code p f fits =
    narrow_both (opening (frame_of f) f.parameters) _ (narrow_opening (frame_of f) f.parameters)
    (narrow_both (joined (blocks (around_of p f) no_facts f.code)) (Stop ∷ []) (narrow_blocks (around_of p f) f.slots no_facts f.code (none_words 8) fits.each) (tt, tt))

-- each function of these
abbrev pub NarrowEach : List (Named Function) → Type 0
NarrowEach functions = (k : ℕ) (named : Named Function) → slice_get functions k ≡ Some named → AreNarrow named.function.code

narrow_each : (p : Program FunctionData) (fs : List (Named FunctionData)) → ((k : ℕ) (named : Named FunctionData) → slice_get fs k ≡ Some named → IsFunction named.function)
    → NarrowEach (map (λ (f : Named FunctionData). record { name = f.name; function = function_of p f.function }) fs)
narrow_each p [] fits = λ k named e. cc
narrow_each p (f ∷ fs) fits = λ k named e. by (narrow_each p fs (λ j g there. fits (suc j) g there)) k named e
  where
    made : Named FunctionData → Named Function
    made g = record { name = g.name; function = function_of p g.function }

    by : NarrowEach (map made fs) → (k : ℕ) (named : Named Function) → slice_get (made f ∷ map made fs) k ≡ Some named → AreNarrow named.function.code
    by later zero named e =
        let same : made f ≡ named = cc in
        subst (λ (g : Named Function). AreNarrow g.function.code) same (narrow_code p f.function (fits zero f refl))
    by later (suc k) named e = later k named e

pub narrow_functions : (p : Program FunctionData) → AreFunctions p → NarrowEach (lowered p).functions
narrow_functions p fits = narrow_each p p.functions fits
