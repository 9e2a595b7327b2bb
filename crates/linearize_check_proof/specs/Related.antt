-- When a state of the laid-out program stands where a state of the program does.
use Rattle.std.proofs.Common.{◌≡◌, ℕ, List, [], ◌∷◌, Some, drop}
use Rattle.std.specs.Prelude.{slice_get, Contains}
use Rattle.lang_base.specs.declared.program.Named.{Named}
use Rattle.linear_language.specs.Frames.{Frame, State}
use Rattle.ltl.specs.Function as ltl
use Rattle.linear_language.specs.Function as linear
use Rattle.linearize_check_proof.specs.Layout.{copies, jump, order_code}
use Rattle.linearize_check_proof.specs.Rules.{IsLaidOut}

-- the functions of a number in both programs, and the order by which the one is laid out as the other
pub record Pair (sources : List (Named ltl.FunctionData)) (targets : List (Named linear.FunctionData)) (number : ℕ) : Type 0 where
  pub source : Named ltl.FunctionData
  pub target : Named linear.FunctionData
  pub order : List ℕ
  pub is_source : slice_get sources number ≡ Some source
  pub is_target : slice_get targets number ≡ Some target
  pub laid_out : IsLaidOut source.function target.function order

-- every function of the one program has its pair in the other
abbrev pub HasPairs : List (Named ltl.FunctionData) → List (Named linear.FunctionData) → Type 0
HasPairs sources targets = (number : ℕ) (f : Named ltl.FunctionData) → slice_get sources number ≡ Some f → (p : Pair sources targets number) × (p.source ≡ f)

-- A caller that waits in the code: behind its call stand the moves that are still to be done and the jump to the node.
pub record FrameRelated (sources : List (Named ltl.FunctionData)) (targets : List (Named linear.FunctionData)) (f g : Frame) : Type 0 where
  pub pair : Pair sources targets f.function
  pub listed : Contains pair.order f.place
  pub behind : List ℕ
  pub stands : drop g.place pair.target.function.code ≡ copies f.moves (jump f.place behind (order_code pair.source.function.blocks behind))
  pub same : g ≡ record f { place = g.place; moves = [] }

abbrev pub FramesRelated : List (Named ltl.FunctionData) → List (Named linear.FunctionData) → List Frame → List Frame → Type 0
FramesRelated sources targets [] [] = Unit {0}
FramesRelated sources targets [] (g ∷ gs) = ⊥
FramesRelated sources targets (f ∷ fs) [] = ⊥
FramesRelated sources targets (f ∷ fs) (g ∷ gs) = FrameRelated sources targets f g × FramesRelated sources targets fs gs

-- The first state is at a listed node, the second at the place of its stretch; all else is the same.
pub record Related (sources : List (Named ltl.FunctionData)) (targets : List (Named linear.FunctionData)) (s t : State) : Type 0 where
  pub pair : Pair sources targets s.function
  pub listed : Contains pair.order s.place
  pub behind : List ℕ
  pub stands : drop t.place pair.target.function.code ≡ order_code pair.source.function.blocks (s.place ∷ behind)
  pub same : t ≡ record s { place = t.place; callers = t.callers }
  pub callers : FramesRelated sources targets s.callers t.callers
