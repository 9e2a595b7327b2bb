use Rattle.std.proofs.Common.{◌≡◌, ℕ, ◌≤◌, length}
use Rattle.std.specs.Arc.{arc_value}
use Rattle.rooms.specs.Opened.{offer_at, opened_first}
use Rattle.rooms.proofs.room.seats_of.Given as goal

abbrev pub invariant-loop-node : goal.invariant-loop-node
invariant-loop-node g l =
    record {
      dealer : l.dealer ≡ record l.initial.dealer { next = l.node };
      seats : l.seats.items ≡ opened_first l.initial.dealer.table (arc_value l.shelf) l.initial.dealer.opening l.initial.offers.items l.node;
      size : length l.offers.items ≡ length l.initial.offers.items;
      left : (j : ℕ) → l.node ≤ j → offer_at l.offers.items j ≡ offer_at l.initial.offers.items j;
    }
