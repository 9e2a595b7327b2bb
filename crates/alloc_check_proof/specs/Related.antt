-- When a state of the program of LTL stands where a state of that of RTL does.
use Rattle.std.specs.Prelude.{◌≡◌, ℕ, List, [], ◌∷◌, length, Option, Some, All, slice_get}
use Rattle.lang_base.specs.declared.program.Named.{Named}
use Rattle.rtl_acts.specs.Data as rtl_data
use Rattle.rtl_acts.specs.Acts as rtl_acts
use Rattle.rtl_language.specs.Function as rtl
use Rattle.rtl_language.specs.Frames as rtl_frames
use Rattle.machine.specs.Data.{Data, all_moved}
use Rattle.machine.specs.Frames.{Frame, State, after_call, with_result}
use Rattle.ltl.specs.Function as ltl
use Rattle.alloc_check_rules.specs.declared.equation.Equation.{Equation}
use Rattle.alloc_check_rules.specs.Rules.{equations_at}
use Rattle.alloc_check_fill.specs.Right.{AreRight}
use Rattle.alloc_check_rules.specs.Holding.{Holds, HasFrame}

-- the equations hold, and globals and output are the same
pub record Agrees (slots : ℕ) (es : List Equation) (d : rtl_data.Data) (e : Data) : Type 0 where
  pub frame : HasFrame slots e
  pub globals : e.globals ≡ d.globals
  pub output : e.output ≡ d.output
  pub holds : All (Holds d e) es

-- both functions are in range, and the one stands for the other with lists that are right
pub record IsSound (f : rtl.FunctionData) (g : ltl.FunctionData) (lists : List (List Equation)) : Type 0 where
  pub input : rtl.IsFunction f
  pub output : ltl.IsFunction g
  pub allocated : AreRight f g lists

-- the functions of a number in both programs, and the equations with which the one stands for the other
pub record Pair (sources : List (Named rtl.FunctionData)) (targets : List (Named ltl.FunctionData)) (number : ℕ) : Type 0 where
  pub source : Named rtl.FunctionData
  pub target : Named ltl.FunctionData
  pub lists : List (List Equation)
  pub is_source : slice_get sources number ≡ Some source
  pub is_target : slice_get targets number ≡ Some target
  pub sound : IsSound source.function target.function lists

-- Callers that wait at one node: once r0 to r3 are lost, the result is put where each call wants it and the moves are
-- done, the equations at the node hold, whatever was returned.
pub record FrameRelated (sources : List (Named rtl.FunctionData)) (targets : List (Named ltl.FunctionData)) (f : rtl_frames.Frame) (g : Frame) : Type 0 where
  pub pair : Pair sources targets f.function
  pub function : g.function ≡ f.function
  pub place : g.place ≡ f.place
  pub registers : length g.registers ≡ 8
  pub slots : length g.slots ≡ pair.target.function.slots
  pub holds : (value : Option ℕ) (d : rtl_data.Data) (e : Data) → d.registers ≡ f.registers → e.registers ≡ after_call g.registers → e.slots ≡ g.slots →
      All (Holds (rtl_acts.with_result f.target value d) (all_moved g.moves (with_result g.target value e))) (equations_at pair.lists f.place)

abbrev pub FramesRelated : List (Named rtl.FunctionData) → List (Named ltl.FunctionData) → List rtl_frames.Frame → List Frame → Type 0
FramesRelated sources targets [] [] = Unit {0}
FramesRelated sources targets [] (g ∷ gs) = ⊥
FramesRelated sources targets (f ∷ fs) [] = ⊥
FramesRelated sources targets (f ∷ fs) (g ∷ gs) = FrameRelated sources targets f g × FramesRelated sources targets fs gs

-- Both states are in the same function at the same node, where the equations hold.
pub record Related (sources : List (Named rtl.FunctionData)) (targets : List (Named ltl.FunctionData)) (s : rtl_frames.State) (t : State) : Type 0 where
  pub pair : Pair sources targets s.function
  pub same : t ≡ record { function = s.function; place = s.place; here = t.here; callers = t.callers }
  pub agrees : Agrees pair.target.function.slots (equations_at pair.lists s.place) s.here t.here
  pub callers : FramesRelated sources targets s.callers t.callers
