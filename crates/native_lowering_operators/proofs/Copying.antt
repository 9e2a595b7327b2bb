-- A block that copies A to D, unless they are one, and then works on D.
use Rattle.std.proofs.Common.{◌≡◌, ◌≢◌, ℕ, suc, ◌+◌, ◌<◌, Bool, true, false, List, [], ◌∷◌, ◌++◌, length, Option, Some, None, refl, sym, ap, subst, ◌∙◌, arith}
use Rattle.std.specs.Prelude.{nat_eq, if◌then◌else◌, slice_index, slice_set}
use Rattle.std.proofs.lemmas.Bool.{eqb-true}
use Rattle.std.proofs.lemmas.List.{get_or-set_same, get_or-set_other, set-set}
use Rattle.lang_base.specs.declared.program.Named.{Named}
use Rattle.x86_syntax.specs.declared.function.Function.{Function}
use Rattle.x86_syntax.specs.declared.instruction.Instruction.{Instruction}
use Rattle.x86_syntax.specs.declared.instruction.Instruction.TheVariants.{Copy}
use Rattle.x86_state.specs.State.{State, Goes}
use Rattle.x86.specs.Meaning.{instruction_step}
use Rattle.native_lowering_definition.specs.Locations.{register_of}
use Rattle.native_lowering_definition.specs.Operating.{copy}
use Rattle.native_lowering_walks.specs.Walks.{then as onward, walks, GoStraight}
use Rattle.native_lowering_walks.proofs.Straight.{copy_below}
use Rattle.native_lowering_runs.proofs.Registers.{number_is}

abbrev pub left_as : State → ℕ → Option (ℕ × ℕ) → ℕ → ℕ → State
left_as v count flags d w = record v { place = v.place + count; registers = slice_set v.registers d w; flags = flags }

straight_if : (b : Bool) (d a : ℕ) (last : Instruction) → GoStraight ((if b then [] else Copy (register_of d) (register_of a) ∷ []) ++ last ∷ [])
straight_if true d a last = tt
straight_if false d a last = (copy_below (register_of d) (register_of a), tt)

pub straight_copy : (d a : ℕ) (last : Instruction) → GoStraight (copy d a ++ last ∷ [])
straight_copy d a last = straight_if (nat_eq a d) d a last

count_if : (b : Bool) (d a : ℕ) (last : Instruction)
    → length ((if b then [] else Copy (register_of d) (register_of a) ∷ []) ++ last ∷ []) ≡ suc (length (if b then [] else Copy (register_of d) (register_of a) ∷ []))
count_if true d a last = refl
count_if false d a last = refl

pub count_copy : (d a : ℕ) (last : Instruction) → length (copy d a ++ last ∷ []) ≡ suc (length (copy d a))
count_copy d a last = count_if (nat_eq a d) d a last

module _ (functions : List (Named Function)) (room : Option ℕ) (code : List Instruction) (t : State) (d a x r : ℕ) (flags : Option (ℕ × ℕ)) (last : Instruction) where
  -- the last leaves r in D where D is x and the other registers are as at the beginning
  abbrev pub LeavesIt : Type 0
  LeavesIt = (v : State) → slice_index v.registers d ≡ x → ((q : ℕ) → q ≢ d → slice_index v.registers q ≡ slice_index t.registers q) → v.flags ≡ t.flags
      → instruction_step functions room code v (Some last) ≡ Goes (left_as v 1 flags d r)

  abbrev copied : State
  copied = record t { place = t.place + 1; registers = slice_set t.registers d x }

  walk_if : (b : Bool) → nat_eq a d ≡ b → a < 8 → d < 8 → length t.registers ≡ 13 → slice_index t.registers a ≡ x → LeavesIt
      → walks functions room code ((if b then [] else Copy (register_of d) (register_of a) ∷ []) ++ last ∷ []) t
      ≡ Goes (left_as t (suc (length (if b then [] else Copy (register_of d) (register_of a) ∷ []))) flags d r)
  walk_if true e near near' full here leaves =
      ap (λ z. onward z (walks functions room code []))
      (leaves t (ap (slice_index t.registers) (sym (eqb-true a d e)) ∙ here) (λ q apart. refl) refl)
  walk_if false e near near' full here leaves =
      ap (λ (ws : List ℕ). onward (instruction_step functions room code (record t { place = t.place + 1; registers = ws }) (Some last)) (walks functions room code []))
      ((λ i. slice_set t.registers (number_is d near' i) (slice_index t.registers (number_is a near i))) ∙ ap (slice_set t.registers d) here)
      ∙ ap (λ z. onward z (walks functions room code []))
      (leaves copied (get_or-set_same t.registers d x 0 (omega (arith, full, near'))) (λ q apart. get_or-set_other t.registers d q x 0 apart) refl)
      ∙ (λ i. Goes (record t { place = two i; registers = again i; flags = flags }))
    where
      two : t.place + 1 + 1 ≡ t.place + 2
      two = omega arith

      again : slice_set (slice_set t.registers d x) d r ≡ slice_set t.registers d r
      again = set-set t.registers d x r

  pub copy_walks : a < 8 → d < 8 → length t.registers ≡ 13 → slice_index t.registers a ≡ x → LeavesIt
      → walks functions room code (copy d a ++ last ∷ []) t ≡ Goes (left_as t (suc (length (copy d a))) flags d r)
  copy_walks near near' full here leaves = walk_if (nat_eq a d) refl near near' full here leaves
