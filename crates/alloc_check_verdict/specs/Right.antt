-- What is told of an output: the rules, asked of its parts one by one.
use Rattle.std.specs.Prelude.{◌≡◌, ℕ, List, All, length, Option}
use Rattle.rtl_language.specs.Function as rtl
use Rattle.ltl.specs.Function as ltl
use Rattle.lang_base.specs.declared.fault.Fault.{Fault}
use Rattle.rtl_passes_marks.specs.Faults.{TellsFault}
use Rattle.rtl_passes_marks.specs.declared.row.NodeRow.{NodeRow}
use Rattle.alloc_check_rules.specs.declared.equation.Equation.{Equation}
use Rattle.alloc_check_rules.specs.Rules.{HoldsAtEntry, IsRightAt}
use Rattle.alloc_check_proof.specs.Allocated.{filled, HasForm}

-- the equations of a node hold at the entry, if the node is that
abbrev pub BeginsRight : rtl.FunctionData → ltl.FunctionData → ℕ → List Equation → Type 0
BeginsRight input output n es = n ≡ input.entry → All (HoldsAtEntry input.parameters output.parameters) es

-- none where the rules are kept, else the form, else the lowest node that breaks a rule
abbrev pub TellsWhy : rtl.FunctionData → ltl.FunctionData → List (NodeRow Equation) → Option Fault → Type 0
TellsWhy input output rows told =
    TellsFault (HasForm input output rows) (IsRightAt input output (filled input output rows)) (length input.nodes) told
