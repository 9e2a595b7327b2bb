-- The baseline of the pass: the function itself, and no rows.
use Rattle.std.specs.Prelude.{◌≡◌, List, []}
use Rattle.rtl_passes_facts.specs.Function.{FunctionData}
use Rattle.rtl_passes_facts.specs.NodeRow.{NodeRow}
use Rattle.constprop_check_rules.specs.declared.fact.Fact.{Fact}

abbrev pub IsBaseline : FunctionData → FunctionData → List (NodeRow Fact) → Type 0
IsBaseline input output rows = (output ≡ input) × (rows ≡ [])
