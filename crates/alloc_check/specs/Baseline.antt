-- The baseline of the pass: each register in a slot of its own, and at each marked node the equations of the live registers.
use Rattle.std.specs.Prelude.{◌≡◌, ℕ, ◌<◌, ◌↔◌, List, [], length, true, false, Contains}
use Rattle.rtl_language.specs.declared.instruction.Instruction.{Instruction}
use Rattle.rtl_language.specs.Function as rtl
use Rattle.ltl.specs.Function as ltl
use Rattle.rtl_passes_marks.specs.declared.row.NodeRow.{NodeRow}
use Rattle.rtl_passes_marks.specs.Rows.{entries_at, AreRows}
use Rattle.alloc_check_rules.specs.declared.equation.Equation.{Equation}
use Rattle.alloc_check_rules.specs.Rules.{Rise, IsInOrder}
use Rattle.alloc_check_verdict.specs.Allocated.{is_marked}
use Rattle.alloc_check_live.specs.Liveness.{IsLive}
use Rattle.alloc_check.specs.Slots.{own, function_in}

-- at this node: the list rises, and an equation is in it exactly if it is of a register that is live there and its own slot
pub record IsLiveList (nodes : List Instruction) (n : ℕ) (equations : List Equation) : Type 0 where
  pub rising : Rise equations
  pub exactly : (e : Equation) → Contains equations e ↔ ((e ≡ own e.register) × IsLive nodes n e.register)

-- so at each marked node, and rows for no others
pub record AreLiveRows (input : rtl.FunctionData) (rows : List (NodeRow Equation)) : Type 0 where
  pub form : AreRows (IsInOrder input.registers input.registers) input.entry input.nodes rows
  pub each : (n : ℕ) → n < length input.nodes → is_marked input n ≡ true → IsLiveList input.nodes n (entries_at rows n)

abbrev pub IsBaseline : rtl.FunctionData → ltl.FunctionData → List (NodeRow Equation) → Type 0
IsBaseline input output rows = (output ≡ function_in input) × AreLiveRows input rows
