use Rattle.std.proofs.Common.{◌≡◌, ◌≤◌, ◌+◌, ◌++◌, map, vec_len, vec_capacity, length}
use Rattle.std.specs.List.{AllByRecursion}
use Rattle.std.specs.Vec.Iter.{into_iter_items, into_iter_len}
use Rattle.farm_nodes_threads_until.proofs.wrapping.all_taking.Given as goal

abbrev pub invariant-loop-node : goal.invariant-loop-node
invariant-loop-node g l = record {
  whole : map (λ t. t.node) l.all.items ++ into_iter_items l.node-iterator ≡ l.fn.nodes.items;
  counted : into_iter_len l.node-iterator ≡ length (into_iter_items l.node-iterator);
  capacity : vec_len l.all + into_iter_len l.node-iterator ≤ vec_capacity l.all;
  until : AllByRecursion (λ t. t.until ≡ l.fn.until) l.all.items;
}
