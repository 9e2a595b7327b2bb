use Rattle.std.proofs.Common.{◌≡◌, ◌++◌, length, take, drop}
use Rattle.std.specs.Vec.Iter.{into_iter_items}
use Rattle.farm_nodes_open_lists.specs.Rows.{grown, rows_of}
use Rattle.farm_nodes_open_lists.proofs.adding.add_each.Given as goal

-- the lists in front have their values, and the others are as they were
abbrev pub invariant-loop-list : goal.invariant-loop-list
invariant-loop-list g l = record {
  whole : rows_of (take l.list-index l.list-items) ++ grown (rows_of (drop l.list-index l.list-items)) (into_iter_items l.others) ≡ grown (rows_of l.fn.lists.items) l.fn.values.items;
  as_many : length (into_iter_items l.others) ≡ length (drop l.list-index l.list-items);
  count : length l.list-items ≡ length l.fn.lists.items;
}
