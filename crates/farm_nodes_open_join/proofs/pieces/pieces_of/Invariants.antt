use Rattle.std.proofs.Common.{◌≡◌, ◌≤◌, ◌+◌, ◌++◌, length, map, vec_capacity}
use Rattle.std.specs.Vec.Iter.{into_iter_items, into_iter_len}
use Rattle.farm_nodes_open_join.specs.Words.{generators}
use Rattle.farm_nodes_open_join.proofs.pieces.pieces_of.Given as goal

-- the pieces so far and what is left are all there is, and as many are left of the one as of the other
abbrev pub invariant-loop-journal : goal.invariant-loop-journal
invariant-loop-journal g l = record {
  journals : map (λ p. p.journal) l.all.items ++ into_iter_items l.journal-iterator ≡ l.fn.journals.items;
  seats : map (λ p. p.seats) l.all.items ++ into_iter_items l.seats_left ≡ l.fn.seats.items;
  programs : map (λ p. p.program) l.all.items ++ into_iter_items l.programs_left ≡ l.fn.programs.items;
  oracles : map (λ p. p.oracles) l.all.items ++ into_iter_items l.oracles_left ≡ l.fn.oracles.items;
  draws : map (λ p. p.draws) l.all.items ≡ generators l.seed (length l.all.items);
  counted : into_iter_len l.journal-iterator ≡ length (into_iter_items l.journal-iterator);
  seats_left : length (into_iter_items l.seats_left) ≡ length (into_iter_items l.journal-iterator);
  programs_left : length (into_iter_items l.programs_left) ≡ length (into_iter_items l.journal-iterator);
  oracles_left : length (into_iter_items l.oracles_left) ≡ length (into_iter_items l.journal-iterator);
  capacity : length l.all.items + length (into_iter_items l.journal-iterator) ≤ vec_capacity l.all;
}
