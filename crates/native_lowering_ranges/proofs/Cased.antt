-- A step of Linear that goes on is one of the cases.
use Rattle.std.proofs.Common.{◌≡◌, ℕ, ◌+◌, Bool, true, false, List, [], ◌∷◌, length, Option, Some, None, refl, sym, ap, subst, ◌∙◌}
use Rattle.std.specs.Prelude.{◌==◌, slice_get, if◌then◌else◌}
use Rattle.std.specs.Option.{option_map}
use Rattle.std.proofs.lemmas.Bool.{eqb-true}
use Rattle.std.proofs.lemmas.List.{length-map}
use Rattle.lang_base.specs.Machine.{Next, Goes, Ends, Fails}
use Rattle.lang_base.specs.declared.program.Named.{Named}
use Rattle.locations.specs.declared.location.Location.{Location}
use Rattle.machine.specs.declared.test.Test.{Test}
use Rattle.machine.specs.Acts.{does, holds}
use Rattle.machine.specs.Calls.{Callee, values_of, waiting, begun, calls}
use Rattle.machine.specs.Data.{Data, value_at}
use Rattle.machine.specs.Frames.{State, Frame as Caller, goes_to, returned, comes_back}
use Rattle.linear_language.specs.declared.instruction.Instruction.{Instruction}
use Rattle.linear_language.specs.declared.instruction.Instruction.TheVariants.{Do, Copy, Call, Branch, Return, Label, Goto}
use Rattle.linear_language.specs.Function.{FunctionData}
use Rattle.linear_language.specs.Labels.{place_of}
use Rattle.linear_language.specs.Meaning.{instruction_step, function_step, next, jumps, branches, callee_of}
use Rattle.native_lowering_ranges.specs.Cases.{Cases}

same_goes : (x y : State) → Goes x ≡ Goes y → x ≡ y
same_goes x y e = cc

never : (P : Type 0) (x : State) (n : Next State) → n ≡ Fails → n ≡ Goes x → P
never P x n fails goes = absurd (no fails goes)
  where
    no : n ≡ Fails → n ≡ Goes x → ⊥
    no fails goes = cc

no_end : (P : Type 0) (x : State) (w : ℕ) → Ends w ≡ Goes x → P
no_end P x w goes = absurd (no goes)
  where
    no : Ends w ≡ Goes x → ⊥
    no goes = cc

module _ (functions : List (Named FunctionData)) (code : List Instruction) (s : State) (P : State → Type 0) (cases : Cases functions code s P) (s' : State) where
  -- an instruction that gives data
  given : (o : Option Data) → ((d : Data) → o ≡ Some d → P (record s { place = s.place + 1; here = d })) → goes_to s (s.place + 1) o ≡ Goes s' → P s'
  given None each e = never (P s') s' Fails refl e
  given (Some d) each e = subst P (same_goes _ s' e) (each d refl)

  jumped : (label : ℕ) (o : Option ℕ) → place_of label code ≡ o → ((m : ℕ) → place_of label code ≡ Some m → P (record s { place = m; here = s.here })) → jumps s o ≡ Goes s' → P s'
  jumped label None there each e = never (P s') s' Fails refl e
  jumped label (Some m) there each e = subst P (same_goes _ s' e) (each m there)

  branched : (test : Test) (label : ℕ) → slice_get code s.place ≡ Some (Branch test label) → (o : Option Bool) → holds test s.here ≡ o → branches s (place_of label code) o ≡ Goes s' → P s'
  branched test label at None held e = never (P s') s' Fails refl e
  branched test label at (Some true) held e = jumped label (place_of label code) refl (λ m there. cases.taken test label m at held there) e
  branched test label at (Some false) held e = subst P (same_goes _ s' e) (cases.not_taken test label at held)

  called_if : (callee : ℕ) (arguments : List Location) (target : Option Location) (g : Named FunctionData) → slice_get code s.place ≡ Some (Call callee arguments target)
      → slice_get functions callee ≡ Some g → (b : Bool) → (length (values_of arguments s.here) == length g.function.parameters) ≡ b
      → (if b then Goes (begun s s.here callee (callee_of g) (values_of arguments s.here) (waiting s s.here target (s.place + 1) [])) else Fails) ≡ Goes s' → P s'
  called_if callee arguments target g at there false count e = never (P s') s' Fails refl e
  called_if callee arguments target g at there true count e =
      subst P (same_goes _ s' e)
      (cases.call callee arguments target g at there
      (sym (length-map arguments (λ (l : Location). value_at l s.here)) ∙ eqb-true (length (values_of arguments s.here)) (length g.function.parameters) count))

  called : (callee : ℕ) (arguments : List Location) (target : Option Location) → slice_get code s.place ≡ Some (Call callee arguments target) → (o : Option (Named FunctionData)) → slice_get functions callee ≡ o
      → calls s s.here callee (values_of arguments s.here) (waiting s s.here target (s.place + 1) []) (option_map callee_of o) ≡ Goes s' → P s'
  called callee arguments target at None there e = never (P s') s' Fails refl e
  called callee arguments target at (Some g) there e =
      called_if callee arguments target g at there (length (values_of arguments s.here) == length g.function.parameters) refl e

  came_back : (value : Option ℕ) → slice_get code s.place ≡ Some (Return value) → (cs : List Caller) (o : Option (Option ℕ)) → s.callers ≡ cs → returned value s.here ≡ o → comes_back cs s.here o ≡ Goes s' → P s'
  came_back value at [] None callers gives e = never (P s') s' Fails refl e
  came_back value at [] (Some None) callers gives e = never (P s') s' Fails refl e
  came_back value at [] (Some (Some w)) callers gives e = no_end (P s') s' w e
  came_back value at (c ∷ cs) None callers gives e = never (P s') s' Fails refl e
  came_back value at (c ∷ cs) (Some v) callers gives e = subst P (same_goes _ s' e) (cases.back value v c cs at callers gives)

  stepped : (o : Option Instruction) → slice_get code s.place ≡ o → instruction_step functions code s o ≡ Goes s' → P s'
  stepped None at e = never (P s') s' Fails refl e
  stepped (Some (Do act)) at e = given (does act s.here) (λ d does_it. cases.act act d at does_it) e
  stepped (Some (Copy step)) at e = subst P (same_goes _ s' e) (cases.copy step at)
  stepped (Some (Call callee arguments target)) at e = called callee arguments target at (slice_get functions callee) refl e
  stepped (Some (Branch test label)) at e = branched test label at (holds test s.here) refl e
  stepped (Some (Return value)) at e = came_back value at s.callers (returned value s.here) refl refl e
  stepped (Some (Label label)) at e = subst P (same_goes _ s' e) (cases.label label at)
  stepped (Some (Goto label)) at e = jumped label (place_of label code) refl (λ m there. cases.goto label m at there) e

pub cased : (functions : List (Named FunctionData)) (named : Named FunctionData) (s s' : State) (P : State → Type 0) → Cases functions named.function.code s P
    → slice_get functions s.function ≡ Some named → next functions s ≡ Goes s' → P s'
cased functions named s s' P cases there e =
    stepped functions named.function.code s P cases s' (slice_get named.function.code s.place) refl (sym (ap (function_step functions s) there) ∙ e)

-- where a step goes on its function is there
pub runs_in : (functions : List (Named FunctionData)) (s s' : State) → next functions s ≡ Goes s' → (named : Named FunctionData) × (slice_get functions s.function ≡ Some named)
runs_in functions s s' e = by (slice_get functions s.function) refl e
  where
    by : (o : Option (Named FunctionData)) → slice_get functions s.function ≡ o → function_step functions s o ≡ Goes s' → (named : Named FunctionData) × (slice_get functions s.function ≡ Some named)
    by None there e = never _ s' Fails refl e
    by (Some named) there e = (named, there)

-- where it ends it is a return of main's with a word
pub record Ended (code : List Instruction) (s : State) (w : ℕ) : Type 0 where
  pub value : Option ℕ
  pub at : slice_get code s.place ≡ Some (Return value)
  pub alone : s.callers ≡ []
  pub gives : returned value s.here ≡ Some (Some w)

module _ (functions : List (Named FunctionData)) (code : List Instruction) (s : State) (w : ℕ) where
  abbrev Result : Type 0
  Result = Ended code s w

  abbrev fails : Next State
  fails = Fails

  abbrev ends : ℕ → Next State
  ends v = Ends v

  not_goes : (x : State) → Goes x ≡ Ends w → Result
  not_goes x e = absurd (no e)
    where
      no : Goes x ≡ Ends w → ⊥
      no e = cc

  not_fails : fails ≡ Ends w → Result
  not_fails e = absurd (no e)
    where
      no : fails ≡ Ends w → ⊥
      no e = cc

  same_end : (v : ℕ) → ends v ≡ Ends w → v ≡ w
  same_end v e = cc

  not_given : (o : Option Data) (place : ℕ) → goes_to s place o ≡ Ends w → Result
  not_given None place e = not_fails e
  not_given (Some d) place e = not_goes _ e

  not_jumped : (o : Option ℕ) → jumps s o ≡ Ends w → Result
  not_jumped None e = not_fails e
  not_jumped (Some m) e = not_goes _ e

  not_branched : (place : Option ℕ) (o : Option Bool) → branches s place o ≡ Ends w → Result
  not_branched place None e = not_fails e
  not_branched place (Some true) e = not_jumped place e
  not_branched place (Some false) e = not_goes _ e

  not_called_if : (x : State) (b : Bool) → (if b then Goes x else Fails) ≡ Ends w → Result
  not_called_if x true e = not_goes x e
  not_called_if x false e = not_fails e

  not_called : (callee : ℕ) (values : List (Option ℕ)) (caller : Caller) (o : Option Callee) → calls s s.here callee values caller o ≡ Ends w → Result
  not_called callee values caller None e = not_fails e
  not_called callee values caller (Some g) e = not_called_if _ (length values == length g.parameters) e

  ended_back : (value : Option ℕ) → slice_get code s.place ≡ Some (Return value) → (cs : List Caller) (o : Option (Option ℕ)) → s.callers ≡ cs → returned value s.here ≡ o → comes_back cs s.here o ≡ Ends w → Result
  ended_back value at [] None callers gives e = not_fails e
  ended_back value at [] (Some None) callers gives e = not_fails e
  ended_back value at [] (Some (Some v)) callers gives e = record { value = value; at = at; alone = callers; gives = gives ∙ ap (λ n. Some (Some n)) (same_end v e) }
  ended_back value at (c ∷ cs) None callers gives e = not_fails e
  ended_back value at (c ∷ cs) (Some v) callers gives e = not_goes _ e

  ended_at : (o : Option Instruction) → slice_get code s.place ≡ o → instruction_step functions code s o ≡ Ends w → Result
  ended_at None at e = not_fails e
  ended_at (Some (Do act)) at e = not_given (does act s.here) (s.place + 1) e
  ended_at (Some (Copy step)) at e = not_goes _ e
  ended_at (Some (Call callee arguments target)) at e = not_called callee (values_of arguments s.here) (waiting s s.here target (s.place + 1) []) (option_map callee_of (slice_get functions callee)) e
  ended_at (Some (Branch test label)) at e = not_branched (place_of label code) (holds test s.here) e
  ended_at (Some (Return value)) at e = ended_back value at s.callers (returned value s.here) refl refl e
  ended_at (Some (Label label)) at e = not_goes _ e
  ended_at (Some (Goto label)) at e = not_jumped (place_of label code) e

pub ended : (functions : List (Named FunctionData)) (named : Named FunctionData) (s : State) (w : ℕ) → slice_get functions s.function ≡ Some named → next functions s ≡ Ends w → Ended named.function.code s w
ended functions named s w there e =
    ended_at functions named.function.code s w (slice_get named.function.code s.place) refl (sym (ap (function_step functions s) there) ∙ e)
