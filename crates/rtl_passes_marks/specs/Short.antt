-- Rows whose numbers have space in two bytes.
use Rattle.std.specs.Prelude.{◌<◌, ◌^◌, List, length, All}
use Rattle.rtl_passes_marks.specs.declared.row.NodeRow.{NodeRow}

pub record IsShort {A : Type 0} (row : NodeRow A) : Type 0 where
  pub few : length row.entries < 2 ^ 16

pub record AreShort {A : Type 0} (rows : List (NodeRow A)) : Type 0 where
  pub few : length rows < 2 ^ 16
  pub each : All IsShort rows
