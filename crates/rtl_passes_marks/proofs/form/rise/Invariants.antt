use Rattle.std.proofs.Common.{drop}
use Rattle.std.specs.Prelude.{◌↔◌}
use Rattle.rtl_passes_marks.specs.Ranked.{RiseFrom}
use Rattle.rtl_passes_marks.specs.Rows.{place_of}
use Rattle.rtl_passes_marks.proofs.form.rise.Given as goal

abbrev pub invariant-loop-row : goal.invariant-loop-row
invariant-loop-row g l = RiseFrom place_of l.lower (drop l.row-index l.rows) ↔ RiseFrom place_of 0 l.rows
