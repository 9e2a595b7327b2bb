use Rattle.std.proofs.Common.{◌≡◌, ◌++◌, length, map}
use Rattle.std.specs.Vec.Iter.{into_iter_items, into_iter_len}
use Rattle.rooms_function.proofs.opening.node_by_node.Given as goal

-- the seats of the nodes so far and those that are left are all of them
abbrev pub invariant-loop-first : goal.invariant-loop-first
invariant-loop-first l = record {
  first : map (λ n. n.first) l.nodes.items ++ into_iter_items l.first-iterator ≡ l.fn.first.items;
  second : map (λ n. n.second) l.nodes.items ++ into_iter_items l.seconds ≡ l.fn.second.items;
  third : map (λ n. n.third) l.nodes.items ++ into_iter_items l.thirds ≡ l.fn.third.items;
  fourth : map (λ n. n.fourth) l.nodes.items ++ into_iter_items l.fourths ≡ l.fn.fourth.items;
  counted : into_iter_len l.first-iterator ≡ length (into_iter_items l.first-iterator);
  seconds : length (into_iter_items l.seconds) ≡ length (into_iter_items l.first-iterator);
  thirds : length (into_iter_items l.thirds) ≡ length (into_iter_items l.first-iterator);
  fourths : length (into_iter_items l.fourths) ≡ length (into_iter_items l.first-iterator);
}
