-- A walk is so many steps.
use Rattle.std.proofs.Common.{◌≡◌, ℕ, suc, ◌+◌, List, [], ◌∷◌, length, Option, Some, refl, sym, ap, subst, ◌∙◌, arith}
use Rattle.std.specs.Prelude.{slice_get}
use Rattle.lang_base.specs.declared.program.Named.{Named}
use Rattle.x86_syntax.specs.declared.function.Function.{Function}
use Rattle.x86_syntax.specs.declared.instruction.Instruction.{Instruction}
use Rattle.x86_state.specs.State.{State, Step, Goes, Ends, Stops, Fills, Stuck}
use Rattle.x86.specs.Meaning.{instruction_step, function_step, next}
use Rattle.native_lowering_walks.specs.Walks.{then, steps, walks, StandAt, GoStraight}

module _ (functions : List (Named Function)) (room : Option ℕ) (named : Named Function) where
  -- the step at an instruction of the running function
  pub step_at : (s : State) (i : Instruction) → slice_get functions s.function ≡ Some named → slice_get named.function.code s.place ≡ Some i
      → next functions room s ≡ instruction_step functions room named.function.code s (Some i)
  unfolding next
  step_at s i here there =
      ap (function_step functions room s) here ∙ ap (instruction_step functions room named.function.code s) there

  rest_stands : (i : Instruction) (is : List Instruction) (place below : ℕ) → below ≡ place + 1 → StandAt (i ∷ is) place named.function.code → StandAt is below named.function.code
  rest_stands i is place below e stand j k inside =
      let same : place + suc j ≡ below + j = omega arith in
      subst (λ n. slice_get named.function.code n ≡ Some k) same (stand (suc j) k inside)

  mutual_step : (i : Instruction) (is : List Instruction) (s : State) (x : Step) → instruction_step functions room named.function.code s (Some i) ≡ x
      → ((t : State) → x ≡ Goes t → steps functions room (length is) t ≡ walks functions room named.function.code is t)
      → then x (steps functions room (length is)) ≡ then x (walks functions room named.function.code is)
  mutual_step i is s (Goes t) e later = later t refl
  mutual_step i is s (Ends w) e later = refl
  mutual_step i is s Stops e later = refl
  mutual_step i is s Fills e later = refl
  mutual_step i is s Stuck e later = refl

  pub walks_on : (is : List Instruction) (s : State) → slice_get functions s.function ≡ Some named → StandAt is s.place named.function.code → GoStraight is
      → steps functions room (length is) s ≡ walks functions room named.function.code is s
  walks_on [] s here stand straight = refl
  walks_on (i ∷ []) s here stand straight =
      let first = subst (λ n. slice_get named.function.code n ≡ Some i) (omega arith) (stand 0 i refl) in
      ap (λ x. then x (steps functions room 0)) (step_at s i here first)
  walks_on (i ∷ j ∷ is) s here stand straight =
      let first : slice_get named.function.code s.place ≡ Some i = subst (λ n. slice_get named.function.code n ≡ Some i) (omega arith) (stand 0 i refl) in
      let step = instruction_step functions room named.function.code s (Some i) in
      ap (λ x. then x (steps functions room (length (j ∷ is)))) (step_at s i here first)
      ∙ mutual_step i (j ∷ is) s step refl (λ t e.
      let on = straight.0 functions room named.function.code s t e in
      walks_on (j ∷ is) t (subst (λ n. slice_get functions n ≡ Some named) (sym on.0) here)
      (rest_stands i (j ∷ is) s.place t.place on.1 stand) straight.1)
