use Rattle.std.proofs.Common.{◌≡◌, replicate}
use Rattle.rtl_passes_marks.proofs.said.silent.Given as goal

abbrev pub invariant-loop : goal.invariant-loop
invariant-loop l = l.places.items ≡ replicate l.counter l.number
