-- Certificates that can be written beside an input.
use Rattle.std.specs.Prelude.{◌≤◌, ◌^◌, List, length}
use Rattle.rtl_passes_marks.specs.Function.{FunctionData}
use Rattle.rtl_passes_marks.specs.declared.row.NodeRow.{NodeRow}
use Rattle.rtl_passes_marks.specs.RowForm.{RowsFit}
use Rattle.rtl_passes_filled.specs.Rules.{RulesOf}

pub record CertFits {A : Type 0} (rules : RulesOf A) (input : FunctionData) (rows : List (NodeRow A)) : Type 0 where
  pub few : input.registers ≤ 2 ^ 16
  pub nodes : length input.nodes ≤ 2 ^ 16
  pub each : RowsFit (rules.Fits input.registers) (length input.nodes) rows
