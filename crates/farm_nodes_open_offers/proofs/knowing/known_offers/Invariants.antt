use Rattle.std.proofs.Common.{◌≡◌, ◌≤◌, length, take, drop, All}
use Rattle.std.specs.Vec.Iter.{into_iter_items, into_iter_len}
use Rattle.farm_nodes_open_offers.specs.Known.{IsAccepted}
use Rattle.farm_nodes_open_offers.proofs.Placing.{Stand}
use Rattle.farm_nodes_open_offers.proofs.knowing.known_offers.Given as goal

-- what was known of the offers in front, all of them accepted
abbrev pub invariant-loop-found : goal.invariant-loop-found
invariant-loop-found g l = record {
  rest : into_iter_items l.found-iterator ≡ drop l.at l.fn.stored.parts.items;
  counted : into_iter_len l.found-iterator ≡ length (into_iter_items l.found-iterator);
  within : l.at ≤ length l.fn.stored.parts.items;
  stand : Stand l.functions (take l.at l.fn.stored.rooms.items) (take l.at l.fn.stored.parts.items) l.offers.items;
  accepted : All (IsAccepted g.P.Pass.accepts) (take l.at l.fn.stored.parts.items);
}
