use Rattle.std.proofs.Common.{◌≡◌, ◌≤◌, ◌+◌, ◌++◌, map, vec_len, vec_capacity, length}
use Rattle.std.specs.Vec.Iter.{into_iter_items, into_iter_len}
use Rattle.farm_nodes_threads_until.proofs.wrapping.all_nodes.Given as goal

abbrev pub invariant-loop-taking : goal.invariant-loop-taking
invariant-loop-taking g l = record {
  whole : l.nodes.items ++ map (λ t. t.node) (into_iter_items l.taking-iterator) ≡ map (λ t. t.node) l.fn.all.items;
  counted : into_iter_len l.taking-iterator ≡ length (into_iter_items l.taking-iterator);
  capacity : vec_len l.nodes + into_iter_len l.taking-iterator ≤ vec_capacity l.nodes;
}
