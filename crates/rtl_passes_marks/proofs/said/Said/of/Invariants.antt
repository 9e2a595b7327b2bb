use Rattle.std.proofs.Common.{◌≡◌, [], drop, map, replicate}
use Rattle.rtl_passes_marks.specs.Handing.{spread_on, entries_by}
use Rattle.rtl_passes_marks.proofs.said.Said.of.Given as goal

abbrev pub invariant-loop-number : goal.invariant-loop-number
invariant-loop-number g l = spread_on (drop l.number l.rows) (map (entries_by l.rows) l.places.items) ≡ spread_on l.rows (replicate l.nodes [])
