use Rattle.std.proofs.Common.{◌≡◌, drop}
use Rattle.std.specs.Vec.Iter.{into_iter_items}
use Rattle.farm_nodes_open_stored.specs.Checked.{AreChecked}
use Rattle.farm_nodes_open_stored.proofs.checking.checked_nodes.Given as goal

-- the offers of the nodes so far, each checked again
abbrev pub invariant-loop-node : goal.invariant-loop-node
invariant-loop-node g l = record {
  behind : into_iter_items l.behind ≡ drop l.node l.fn.stored.items;
  checked : AreChecked l.functions l.fn.stored.items l.node l.found;
}
