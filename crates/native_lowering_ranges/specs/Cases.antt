-- The steps of Linear that go on, one for each case (Leroy 2009, section 3.4).
use Rattle.std.specs.Prelude.{◌≡◌, ℕ, ◌+◌, true, false, List, [], ◌∷◌, length, Option, Some, slice_get}
use Rattle.lang_base.specs.declared.program.Named.{Named}
use Rattle.locations.specs.declared.location.Location.{Location}
use Rattle.locations.specs.declared.location.Move.{Move}
use Rattle.machine.specs.declared.act.Act.{Act}
use Rattle.machine.specs.declared.test.Test.{Test}
use Rattle.machine.specs.Acts.{does, holds}
use Rattle.machine.specs.Calls.{values_of, waiting, begun}
use Rattle.machine.specs.Data.{Data, moved}
use Rattle.machine.specs.Frames.{State, Frame as Caller, returned, resumed}
use Rattle.linear_language.specs.declared.instruction.Instruction.{Instruction}
use Rattle.linear_language.specs.declared.instruction.Instruction.TheVariants.{Do, Copy, Call, Branch, Return, Label, Goto}
use Rattle.linear_language.specs.Function.{FunctionData}
use Rattle.linear_language.specs.Labels.{place_of}
use Rattle.linear_language.specs.Meaning.{callee_of}

-- the same with this data, at this place
abbrev pub goes_on : State → ℕ → Data → State
goes_on s place d = record s { place = place; here = d }

-- P holds of what follows s, whichever instruction of this code it is at
pub record Cases (functions : List (Named FunctionData)) (code : List Instruction) (s : State) (P : State → Type 0) : Type 0 where
  pub act : (act : Act) (d : Data) → slice_get code s.place ≡ Some (Do act) → does act s.here ≡ Some d → P (goes_on s (s.place + 1) d)
  pub copy : (step : Move) → slice_get code s.place ≡ Some (Copy step) → P (goes_on s (s.place + 1) (moved step s.here))
  pub label : (label : ℕ) → slice_get code s.place ≡ Some (Label label) → P (goes_on s (s.place + 1) s.here)
  pub goto : (label m : ℕ) → slice_get code s.place ≡ Some (Goto label) → place_of label code ≡ Some m → P (goes_on s m s.here)
  pub taken : (test : Test) (label m : ℕ) → slice_get code s.place ≡ Some (Branch test label) → holds test s.here ≡ Some true → place_of label code ≡ Some m → P (goes_on s m s.here)
  pub not_taken : (test : Test) (label : ℕ) → slice_get code s.place ≡ Some (Branch test label) → holds test s.here ≡ Some false → P (goes_on s (s.place + 1) s.here)
  pub call : (callee : ℕ) (arguments : List Location) (target : Option Location) (g : Named FunctionData) → slice_get code s.place ≡ Some (Call callee arguments target)
      → slice_get functions callee ≡ Some g → length arguments ≡ length g.function.parameters
      → P (begun s s.here callee (callee_of g) (values_of arguments s.here) (waiting s s.here target (s.place + 1) []))
  pub back : (value : Option ℕ) (v : Option ℕ) (caller : Caller) (callers : List Caller) → slice_get code s.place ≡ Some (Return value) → s.callers ≡ caller ∷ callers → returned value s.here ≡ Some v
      → P (resumed v s.here caller callers)
