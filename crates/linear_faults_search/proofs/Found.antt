-- The fault of a run is that of where it stands later, with so much less of its bound.
use Rattle.std.proofs.Common.{◌≡◌, ℕ, zero, suc, ◌-◌, ◌<◌, List, [], ◌∷◌, ◌++◌, map, Some, None, refl, sym, ap, ◌∙◌, arith}
use Rattle.lang_base.specs.Machine.{Next, Goes, Ends, Fails}
use Rattle.lang_base.specs.declared.program.Named.{Named}
use Rattle.machine.specs.Frames.{State}
use Rattle.linear_language.specs.Function.{FunctionData}
use Rattle.linear_language.specs.Meaning.{next}
use Rattle.linear_faults_run.specs.declared.callers.Caller.{Caller}
use Rattle.linear_faults.specs.declared.fault.Fault.{Fault}
use Rattle.linear_faults_run.specs.declared.run.Run.{Run}
use Rattle.linear_faults_run.specs.declared.step.Step.TheVariants as step
use Rattle.linear_faults.specs.Faults.{found_by, fault_at, fault_from, site_of}
use Rattle.linear_faults_search.specs.Finding.{IsFaultHere, IsFaultFrom}
use Rattle.linear_faults_run.specs.Standing.{frame_of, state_of}
use Rattle.linear_faults_run.specs.Steps.{Stays, Steps}

module _ (functions : List (Named FunctionData)) where
  one_step : (n : ℕ) (s : State) → 0 < n → fault_from functions n s ≡ found_by (next functions s) (fault_at functions s) (fault_from functions (n - 1))
  one_step zero s more = absurd (omega arith)
  one_step (suc n) s more =
      let less : n ≡ suc n - 1 = omega arith in
      ap (λ m. found_by (next functions s) (fault_at functions s) (fault_from functions m)) less

  by_step : (n : ℕ) (s : State) (o : Next State) → 0 < n → next functions s ≡ o → fault_from functions n s ≡ found_by o (fault_at functions s) (fault_from functions (n - 1))
  by_step n s o more e = one_step n s more ∙ ap (λ x. found_by x (fault_at functions s) (fault_from functions (n - 1))) e

  -- whatever was printed before, the fault from the first is that from the second
  abbrev pub HasCome : ℕ → Run → ℕ → Run → Type 0
  HasCome limit before left now = (output : List ℕ) → (later : List ℕ) × (fault_from functions limit (state_of before output) ≡ fault_from functions left (state_of now later))

  pub come_nowhere : (limit : ℕ) (r : Run) → HasCome limit r limit r
  come_nowhere limit r = λ output. (output, refl)

  pub come_on : (limit : ℕ) (before : Run) (left : ℕ) (now after : Run) → HasCome limit before left now → 0 < left → Steps functions now step.Goes after
      → HasCome limit before (left - 1) after
  come_on limit before left now after so more goes = λ output.
      let was = so output in
      (was.0, was.1 ∙ by_step left (state_of now was.0) (Goes (state_of after was.0)) more (goes was.0))

  pub come_printing : (limit : ℕ) (before : Run) (left : ℕ) (now after : Run) (byte : ℕ) → HasCome limit before left now → 0 < left → Steps functions now (step.Prints byte) after
      → HasCome limit before (left - 1) after
  come_printing limit before left now after byte so more prints = λ output.
      let was = so output in
      let later = was.0 ++ byte ∷ [] in
      (later, was.1 ∙ by_step left (state_of now was.0) (Goes (state_of after later)) more (prints was.0))

  pub come_to_an_end : (limit : ℕ) (before : Run) (left : ℕ) (now after : Run) (result : ℕ) → HasCome limit before left now → 0 < left → Steps functions now (step.Ends result) after
      → IsFaultFrom None functions limit before
  come_to_an_end limit before left now after result so more ends = λ output.
      let was = so output in
      sym (was.1 ∙ by_step left (state_of now was.0) (Ends result) more (ends was.0))

  pub come_to_a_fault : (limit : ℕ) (before : Run) (left : ℕ) (now after : Run) (fault : Fault) → HasCome limit before left now → 0 < left → Steps functions now step.Fails after
      → Stays step.Fails now after → IsFaultHere fault functions after → IsFaultFrom (Some fault) functions limit before
  come_to_a_fault limit before left now after fault so more fails stays here = λ output.
      let was = so output in
      ap Some (here was.0 ∙ ap (fault_at functions) (stays was.0)) ∙ sym (was.1 ∙ by_step left (state_of now was.0) Fails more (fails was.0))

  pub come_to_the_bound : (limit : ℕ) (before : Run) (left : ℕ) (now : Run) → HasCome limit before left now → left ≡ 0 → IsFaultFrom None functions limit before
  come_to_the_bound limit before left now so none = λ output.
      let was = so output in
      sym (was.1 ∙ ap (λ n. fault_from functions n (state_of now was.0)) none)

-- callers as calls
pub calls_are : (callers : List Caller) → map (λ c. site_of (frame_of c)) callers ≡ map site_of (map frame_of callers)
calls_are [] = refl
calls_are (c ∷ callers) = ap (λ calls. site_of (frame_of c) ∷ calls) (calls_are callers)
