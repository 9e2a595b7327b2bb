use Rattle.std.proofs.Common.{◌≡◌, ◌≤◌, drop}
use Rattle.std.specs.Vec.Iter.{into_iter_items}
use Rattle.std.specs.Prelude.{vec_capacity}
use Rattle.farm_nodes_open_journals.specs.Journals.{AreOpened}
use Rattle.farm_nodes_open_journals.proofs.opening.open_journals.Given as goal

-- the journals of the nodes so far are open, and the other pairs are as they were
abbrev pub invariant-loop-node : goal.invariant-loop-node
invariant-loop-node g l = record {
  opened : AreOpened g.P.Disk g.P.Pair l.quorums l.digest l.fn.pairs.items l.node l.opened.items;
  behind : into_iter_items l.behind ≡ drop l.node l.fn.pairs.items;
  capacity : l.count ≤ vec_capacity l.opened;
}
