-- An index is tested against the number of a global's cells.
use Rattle.std.proofs.Common.{◌≡◌, ℕ, zero, suc, ◌+◌, ◌<◌, Bool, true, false, List, [], ◌∷◌, length, Option, Some, refl, sym, ap, ◌∙◌, arith}
use Rattle.std.specs.Prelude.{slice_get, nat_le}
use Rattle.std.specs.Option.{option_map}
use Rattle.std.proofs.lemmas.Bool.{leb-true}
use Rattle.lang_base.specs.declared.program.Named.{Named}
use Rattle.x86_syntax.specs.declared.condition.Condition.TheVariants.{AboveOrEqual}
use Rattle.x86_syntax.specs.declared.function.Function.{Function}
use Rattle.x86_syntax.specs.declared.instruction.Instruction.{Instruction}
use Rattle.x86_syntax.specs.declared.instruction.Instruction.TheVariants.{StopIf}
use Rattle.x86_state.specs.State.{State, Goes, Stops}
use Rattle.x86_state.specs.Tables.{condition_table}
use Rattle.x86.specs.Jumping.{takes_if}
use Rattle.x86.specs.Meaning.{instruction_step}

-- one value is one word
pub same_word : (o : Option ℕ) (v w : ℕ) → o ≡ Some v → o ≡ Some w → v ≡ w
same_word o v w e g = let both : Some v ≡ Some w = sym e ∙ g in cc

-- a cell that is there
pub cell_within : {A : Type 0} (cells : List A) (i : ℕ) (w : A) → slice_get cells i ≡ Some w → i < length cells
cell_within [] i w e = cc
cell_within (c ∷ cells) zero w e = omega arith
cell_within (c ∷ cells) (suc i) w e = let h = cell_within cells i w e in omega arith

not_above : (i count : ℕ) → i < count → (b : Bool) → nat_le count i ≡ b → b ≡ false
not_above i count h true e = let no = leb-true count i e in absurd (omega (arith, h, no))
not_above i count h false e = refl

-- the test lets an index pass that is in range
pub passes : (functions : List (Named Function)) (room : Option ℕ) (code : List Instruction) (v : State) (i count : ℕ) → v.flags ≡ Some (i, count) → i < count
    → instruction_step functions room code v (Some (StopIf AboveOrEqual)) ≡ Goes (record v { place = v.place + 1 })
unfolding condition_table
passes functions room code v i count flags h =
    ap (λ o. takes_if (option_map (λ (q : ℕ × ℕ). condition_table AboveOrEqual q.0 q.1) o) Stops v) flags
    ∙ ap (λ b. takes_if (Some b) Stops v) (not_above i count h (nat_le count i) refl)
