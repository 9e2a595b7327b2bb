use Rattle.std.proofs.Common.{◌≡◌, ◌≤◌, ◌+◌, ◌++◌, vec_len, vec_capacity, length}
use Rattle.std.specs.Vec.Iter.{into_iter_items, into_iter_len}
use Rattle.cfarm_build_turns.specs.Resting.{disks_in}
use Rattle.cfarm_build_turns.proofs.resting.disks_back.Given as goal

-- the disks so far and those of the nodes that are left are all
abbrev pub invariant-loop-node : goal.invariant-loop-node
invariant-loop-node g l = record {
  whole : l.all.items ++ disks_in (into_iter_items l.node-iterator) ≡ disks_in l.fn.nodes.items;
  counted : into_iter_len l.node-iterator ≡ length (into_iter_items l.node-iterator);
  capacity : vec_len l.all + into_iter_len l.node-iterator ≤ vec_capacity l.all;
}
