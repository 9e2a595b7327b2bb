-- Where the first instructions of a block stop the run: a stop, or a comparison and a test.
use Rattle.std.proofs.Common.{◌≡◌, ℕ, ◌+◌, ◌<◌, true, List, [], ◌∷◌, ◌++◌, length, Option, Some, None, refl, ap, ◌∙◌}
use Rattle.std.specs.Prelude.{slice_get, slice_index}
use Rattle.std.specs.Option.{option_map}
use Rattle.lang_base.specs.declared.program.Named.{Named}
use Rattle.lang_base.specs.declared.program.Program.{Program}
use Rattle.machine.specs.Frames.{State}
use Rattle.linear_language.specs.declared.instruction.Instruction.{Instruction}
use Rattle.linear_language.specs.Function.{FunctionData}
use Rattle.x86_syntax.specs.declared.condition.Condition.{Condition}
use Rattle.x86_syntax.specs.declared.function.Function.{Function}
use Rattle.x86_syntax.specs.declared.instruction.Instruction.{Instruction as NativeInstruction}
use Rattle.x86_syntax.specs.declared.instruction.Instruction.TheVariants.{CompareWith, Stop, StopIf}
use Rattle.x86_state.specs.State.{State as Native, Stops, word}
use Rattle.x86_state.specs.Tables.{condition_table}
use Rattle.x86.specs.Jumping.{takes_if}
use Rattle.x86.specs.Meaning.{instruction_step}
use Rattle.native_lowering_definition.specs.Blocks.{block}
use Rattle.native_lowering_definition.specs.Layout.{facts_in}
use Rattle.native_lowering_definition.specs.Locations.{register_of}
use Rattle.native_lowering_definition.specs.Lowering.{around_of, code_of, lowered}
use Rattle.native_lowering_definition.specs.Operating.{Block}
use Rattle.native_lowering_layout.proofs.Blocks.{stands_in}
use Rattle.native_lowering_layout.proofs.Joined.{get_left}
use Rattle.native_lowering_relation.specs.Related.{Related}
use Rattle.native_lowering_walks.specs.Walks.{then as onward, walks, GoStraight}
use Rattle.native_lowering_walks.proofs.Straight.{compare_with_below}
use Rattle.native_lowering_walks.proofs.Walking.{walks_on}
use Rattle.native_lowering_runs.proofs.Blocks.{lowered_function, lowered_there}
use Rattle.native_lowering_runs.proofs.Registers.{word_is_at}
use Rattle.native_lowering_safe_stops.specs.Halting.{Halts}

-- the test stops where its condition holds
pub stops_at : (functions : List (Named Function)) (room : Option ℕ) (code : List NativeInstruction) (v : Native) (condition : Condition) (x y : ℕ) → v.flags ≡ Some (x, y) → condition_table condition x y ≡ true
    → instruction_step functions room code v (Some (StopIf condition)) ≡ Stops
stops_at functions room code v condition x y flags holds =
    ap (λ o. takes_if (option_map (λ (q : ℕ × ℕ). condition_table condition q.0 q.1) o) Stops v) flags
    ∙ ap (λ b. takes_if (Some b) Stops v) holds

module _ (p : Program FunctionData) (s : State) (t : Native) (related : Related p s t) where
  abbrev f : FunctionData
  f = related.named.function

  abbrev pub IsBlock : Instruction → Block → Type 0
  IsBlock i b = block (around_of p f) (facts_in f s.place) i ≡ b

  abbrev pub At : Instruction → Type 0
  At i = slice_get f.code s.place ≡ Some i

  pub block_stops : (i : Instruction) (first rest : Block) → At i → IsBlock i (first ++ rest) → GoStraight first → walks (lowered p).functions None (code_of p f) first t ≡ Stops → Halts (lowered p).functions t
  block_stops i first rest at is_it straight walk = record {
    count = length first;
    last = Stops;
    go = walks_on (lowered p).functions None (lowered_function p related.named) first t
        (lowered_there p related.named t.function (ap (slice_get p.functions) related.function ∙ related.there))
        (λ j k inside. stands_in p f s.place j (t.place + j) i k at (ap (λ (b : Block). slice_get b j) is_it ∙ get_left first rest j k inside) (ap (λ m. m + j) related.place))
        straight
        ∙ walk;
    over = tt;
  }

  pub stop_stops : (i : Instruction) → At i → IsBlock i (Stop ∷ []) → Halts (lowered p).functions t
  stop_stops i at is_it = block_stops i (Stop ∷ []) [] at is_it tt refl

  -- a register is compared with a word, and the condition holds
  pub test_stops : (i : Instruction) (a w : ℕ) (condition : Condition) (rest : Block) → At i → IsBlock i (CompareWith (register_of a) w ∷ StopIf condition ∷ rest) → a < 8
      → condition_table condition (slice_index t.registers a) w ≡ true → Halts (lowered p).functions t
  test_stops i a w condition rest at is_it near holds =
      let x = word (register_of a) t in
      let u = record t { place = t.place + 1; flags = Some (x, w) } in
      block_stops i (CompareWith (register_of a) w ∷ StopIf condition ∷ []) rest at is_it (compare_with_below (register_of a) w, tt)
      (ap (λ z. onward z (walks (lowered p).functions None (code_of p f) []))
      (stops_at (lowered p).functions None (code_of p f) u condition x w refl (ap (λ k. condition_table condition k w) (word_is_at a t.registers near) ∙ holds)))
