use Rattle.std.proofs.Common.{◌≡◌, ◌++◌, length, map, All}
use Rattle.std.specs.Vec.Iter.{into_iter_items, into_iter_len}
use Rattle.farm_nodes_turn_passes.specs.FunctionOf.{function_of}
use Rattle.farm_nodes_open_numbers.proofs.numbering.numbered.Given as goal

-- the seats so far have the claim, which is one of the rooms of all
abbrev pub invariant-loop-seat : goal.invariant-loop-seat
invariant-loop-seat g l = record {
  seats : map (λ n. n.seat) l.found.items ++ into_iter_items l.seat-iterator ≡ l.fn.seats.items;
  counted : into_iter_len l.seat-iterator ≡ length (into_iter_items l.seat-iterator);
  same : All (λ c. c ≡ l.initial.claim) (map (λ n. n.claim) l.found.items);
  kept : l.claim ≡ l.initial.claim;
  here : All (λ s. function_of s ≡ l.initial.claim.room) (into_iter_items l.seat-iterator);
}
