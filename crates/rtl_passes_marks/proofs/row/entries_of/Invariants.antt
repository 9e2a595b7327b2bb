use Rattle.std.proofs.Common.{◌≡◌, drop}
use Rattle.rtl_passes_marks.specs.Rows.{entries_at}
use Rattle.rtl_passes_marks.proofs.row.entries_of.Given as goal

abbrev pub invariant-loop-row : goal.invariant-loop-row
invariant-loop-row g l = entries_at (drop l.row-index l.rows) l.node ≡ entries_at l.rows l.node
