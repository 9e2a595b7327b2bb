use Rattle.std.proofs.Common.{◌≡◌, replicate}
use Rattle.rtl_passes_marks.specs.declared.marks.Came.TheVariants.{Never}
use Rattle.rtl_passes_marks.proofs.marks.fresh.Given as goal

abbrev pub invariant-loop : goal.invariant-loop
invariant-loop l = l.table.items ≡ replicate l.counter Never
