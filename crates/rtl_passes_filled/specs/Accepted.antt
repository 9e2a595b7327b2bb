-- What a pass accepts that goes by facts of each node, with rows at marked nodes alone.
use Rattle.std.specs.Prelude.{List, length, Option}
use Rattle.rtl_passes_marks.specs.Fault.{Fault}
use Rattle.rtl_passes_marks.specs.Function.{FunctionData}
use Rattle.rtl_passes_marks.specs.Shape.{HasSameShape}
use Rattle.rtl_passes_marks.specs.Faults.{KeepsRules, TellsFault}
use Rattle.rtl_passes_marks.specs.declared.row.NodeRow.{NodeRow}
use Rattle.rtl_passes_marks.specs.Rows.{AreRows}
use Rattle.rtl_passes_filled.specs.Rules.{RulesOf, IsInOrder, IsRightAt}
use Rattle.rtl_passes_filled.specs.Filled.{filled_in}

-- The form: the functions differ in their instructions alone, and the rows are for marked nodes.
pub record HasShape {A : Type 0} (rules : RulesOf A) (input output : FunctionData) (rows : List (NodeRow A)) : Type 0 where
  pub same : HasSameShape input output
  pub form : AreRows (IsInOrder rules input.registers) input.entry input.nodes rows

-- What is accepted: the form is kept, and each node keeps the rules with the lists that the rows are filled to.
abbrev pub IsAccepted : {A : Type 0} → RulesOf A → FunctionData → FunctionData → List (NodeRow A) → Type 0
IsAccepted rules input output rows =
    KeepsRules (HasShape rules input output rows) (IsRightAt rules input output (filled_in rules input rows)) (length input.nodes)

-- none where the rules are kept, else the form, else the lowest node that breaks a rule
abbrev pub TellsWhy : {A : Type 0} → RulesOf A → FunctionData → FunctionData → List (NodeRow A) → Option Fault → Type 0
TellsWhy rules input output rows told =
    TellsFault (HasShape rules input output rows) (IsRightAt rules input output (filled_in rules input rows)) (length input.nodes) told
