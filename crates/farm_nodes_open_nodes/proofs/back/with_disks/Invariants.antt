use Rattle.std.proofs.Common.{◌≡◌, ◌≤◌, ◌+◌, ◌++◌, length, map}
use Rattle.std.specs.Prelude.{vec_capacity}
use Rattle.std.specs.Vec.Iter.{into_iter_items, into_iter_len}
use Rattle.farm_nodes_open_nodes.proofs.back.with_disks.Given as goal

-- the disks so far and those of the other journals are all of them
abbrev pub invariant-loop-journal : goal.invariant-loop-journal
invariant-loop-journal g l = record {
  whole : l.back.items ++ map (λ j. j.0.disk) (into_iter_items l.journal-iterator) ≡ l.fn.back.items ++ map (λ j. j.0.disk) l.fn.journals.items;
  counted : into_iter_len l.journal-iterator ≡ length (into_iter_items l.journal-iterator);
  fits : length l.back.items + length (into_iter_items l.journal-iterator) ≤ vec_capacity l.back;
  capacity : vec_capacity l.fn.back ≤ vec_capacity l.back;
}
