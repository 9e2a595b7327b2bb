use Rattle.std.proofs.Common.{◌≡◌, length, All}
use Rattle.farm_nodes_open_lists.specs.Rows.{rows_of}
use Rattle.farm_nodes_open_lists.proofs.adding.none_yet.Given as goal

-- so many empty lists
abbrev pub invariant-loop-list : goal.invariant-loop-list
invariant-loop-list g l = record {
  count : length l.lists.items ≡ l._list;
  none : All (λ row. length row ≡ 0) (rows_of l.lists.items);
}
