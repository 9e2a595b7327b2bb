use Rattle.std.proofs.Common.{◌≡◌, ◌≤◌, ◌+◌, ◌++◌, List, All, length, vec_capacity}
use Rattle.std.specs.List.{AllZip}
use Rattle.std.specs.Vec.Iter.{into_iter_items, into_iter_len}
use Rattle.farm_nodes_open_join.proofs.pieces.made_of.Given as goal

-- what is made of those that are left goes behind what is made
abbrev pub invariant-loop-value : goal.invariant-loop-value
invariant-loop-value g l = record {
  callable : All (λ v. goal.F-pre g l.make v) (into_iter_items l.value-iterator);
  made : (more : List _) → AllZip (λ v m. goal.F-post g l.make v m) (into_iter_items l.value-iterator) more → AllZip (λ v m. goal.F-post g l.make v m) l.fn.values.items (l.made.items ++ more);
  counted : into_iter_len l.value-iterator ≡ length (into_iter_items l.value-iterator);
  capacity : length l.made.items + length (into_iter_items l.value-iterator) ≤ vec_capacity l.made;
}
