use Rattle.std.proofs.Common.{◌≡◌, ◌≤◌, ◌+◌, ◌++◌, length, map}
use Rattle.std.specs.Prelude.{option_to_list, vec_capacity}
use Rattle.std.specs.Vec.Iter.{into_iter_items, into_iter_len}
use Rattle.farm_nodes_open_nodes.proofs.back.with_refused.Given as goal

-- the pairs so far and those behind them are all of them
abbrev pub invariant-loop-pair : goal.invariant-loop-pair
invariant-loop-pair g l = record {
  whole : l.back.items ++ into_iter_items l.pair-iterator ≡ ((l.fn.back.items ++ map (λ j. j.0.disk) l.fn.refused.opened.items) ++ option_to_list l.fn.refused.pair) ++ into_iter_items l.fn.refused.behind;
  counted : into_iter_len l.pair-iterator ≡ length (into_iter_items l.pair-iterator);
  fits : length l.back.items + length (into_iter_items l.pair-iterator) ≤ vec_capacity l.back;
}
