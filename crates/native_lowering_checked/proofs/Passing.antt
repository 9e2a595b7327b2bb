-- A test that does not stop.
use Rattle.std.proofs.Common.{◌≡◌, ℕ, ◌+◌, false, Option, Some, List, sym, ap, ◌∙◌}
use Rattle.std.specs.Option.{option_map}
use Rattle.lang_base.specs.declared.program.Named.{Named}
use Rattle.x86_syntax.specs.declared.condition.Condition.{Condition}
use Rattle.x86_syntax.specs.declared.function.Function.{Function}
use Rattle.x86_syntax.specs.declared.instruction.Instruction.{Instruction}
use Rattle.x86_syntax.specs.declared.instruction.Instruction.TheVariants.{StopIf}
use Rattle.x86_state.specs.State.{State, Goes, Stops}
use Rattle.x86_state.specs.Tables.{condition_table}
use Rattle.x86.specs.Jumping.{takes_if}
use Rattle.x86.specs.Meaning.{instruction_step}

-- one value is one word
pub same_word : (o : Option ℕ) (v w : ℕ) → o ≡ Some v → o ≡ Some w → v ≡ w
same_word o v w e g = let both : Some v ≡ Some w = sym e ∙ g in cc

pub goes_past : (functions : List (Named Function)) (room : Option ℕ) (code : List Instruction) (v : State) (condition : Condition) (x y : ℕ) → v.flags ≡ Some (x, y) → condition_table condition x y ≡ false
    → instruction_step functions room code v (Some (StopIf condition)) ≡ Goes (record v { place = v.place + 1 })
goes_past functions room code v condition x y flags fails =
    ap (λ o. takes_if (option_map (λ (q : ℕ × ℕ). condition_table condition q.0 q.1) o) Stops v) flags
    ∙ ap (λ b. takes_if (Some b) Stops v) fails
