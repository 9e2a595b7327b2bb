use Rattle.std.proofs.Common.{◌≡◌, drop}
use Rattle.rtl_passes_marks.specs.Tables.{walked}
use Rattle.rtl_passes_marks.proofs.marks.walk.Given as goal

abbrev pub invariant-loop-n : goal.invariant-loop-n
invariant-loop-n l = walked l.n (drop l.n l.nodes) l.table ≡ walked 0 l.nodes l.initial.table
