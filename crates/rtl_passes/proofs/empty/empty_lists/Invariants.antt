use Rattle.std.proofs.Common.{◌≡◌, [], replicate}
use Rattle.rtl_passes.proofs.empty.empty_lists.Given as goal

abbrev pub invariant-loop : goal.invariant-loop
invariant-loop g l = l.lists.items ≡ replicate l.counter []
