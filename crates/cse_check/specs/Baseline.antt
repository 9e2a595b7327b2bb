-- The baseline of the pass: the function itself, and no rows.
use Rattle.std.specs.Prelude.{◌≡◌, List, []}
use Rattle.rtl_passes_facts.specs.Function.{FunctionData}
use Rattle.rtl_passes_facts.specs.NodeRow.{NodeRow}
use Rattle.cse_check_rules.specs.declared.equation.Equation.{Equation}

abbrev pub IsBaseline : FunctionData → FunctionData → List (NodeRow Equation) → Type 0
IsBaseline input output rows = (output ≡ input) × (rows ≡ [])
