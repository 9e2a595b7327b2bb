-- Seats that go on in their rooms, call after call.
use Rattle.std.proofs.Common.{ℕ, List, refl, ◌∙◌}
use Rattle.farm_nodes_turn_leading.proofs.Ballots.{stays_hearing}
use Rattle.farm_nodes_turn_leading.proofs.UnderWay.{way_through}
use Rattle.farm_nodes_turn_step.proofs.Keeping.{goes_through}
use Rattle.farm_nodes_turn_room.proofs.Turns.{held_same, own_seeing, stays_held}
use Rattle.farm_nodes_turn_function.specs.SeatValue.{SeatValue}
use Rattle.farm_nodes_turn_function.specs.Offers.{IsConstants, IsExpressions, IsAllocation, IsOrder}
use Rattle.farm_nodes_turn_function.specs.Played.{StaysInTurn}
use Rattle.farm_nodes_turn_function.specs.Texts.{pass_texts, IsOwnTextIn}
use Rattle.farm_nodes_turn_passes.specs.declared.which.Which.{Which}
use Rattle.farm_nodes_turn_passes.specs.declared.which.Which.TheVariants.{Constants, Expressions, Allocation, Order}
use Rattle.farm_nodes_turn_function.specs.OfRun.{IsOfRun}
use Rattle.farm_nodes_turn_function.specs.Ordered.{IsOfOneNode}
use Rattle.farm_nodes_sweep_step.specs.Staged.{HasLooked}
use Rattle.farm_nodes_sweep_function.specs.RoomSeat.{Fours, RoomSeat, InConstants, InExpressions, InAllocation, InOrder, seat_of, words_in}
use Rattle.farm_nodes_sweep_function.specs.Staged.{Looks, LooksIn}
use Rattle.farm_nodes_sweep_function.specs.Stays.{IsOwnIn, StaysSeat}

looks_stays : {T : Type 0} (s t : SeatValue T) → Looks s t → StaysInTurn s t
looks_stays s t looks =
    let remains = stays_hearing s.words t.words looks.words.heard in
    record {
      room = looks.room;
      me = remains.me;
      quorums = remains.quorums;
      learned = remains.learned;
      offered = λ o. remains.offered ∙ o;
      under_way = remains.under_way;
      seen = looks.seen;
      run = remains.run;
    }

stays_through : {T : Type 0} (a b c : SeatValue T) → StaysInTurn a b → StaysInTurn b c → StaysInTurn a c
stays_through a b c p q = record {
  room = record { table = p.room.table ∙ q.room.table; cells = p.room.cells ∙ q.room.cells };
  me = q.me ∙ p.me;
  quorums = q.quorums ∙ p.quorums;
  learned = λ v e. q.learned v (p.learned v e);
  offered = λ o. q.offered (p.offered o);
  under_way = way_through a.words.node b.words.node c.words.node p.under_way q.under_way;
  seen = λ j x is. q.seen j x (p.seen j x is);
  run = goes_through a.words b.words c.words p.run q.run;
}

pub looked_stays : (u v : RoomSeat) → LooksIn u v → StaysSeat u v
looked_stays (InConstants s) (InConstants t) h = looks_stays s t h
looked_stays (InExpressions s) (InExpressions t) h = looks_stays s t h
looked_stays (InAllocation s) (InAllocation t) h = looks_stays s t h
looked_stays (InOrder s) (InOrder t) h = looks_stays s t h
looked_stays one other h = absurd h

pub looked_words : (u v : RoomSeat) → LooksIn u v → HasLooked (words_in u) (words_in v)
looked_words (InConstants s) (InConstants t) h = h.words
looked_words (InExpressions s) (InExpressions t) h = h.words
looked_words (InAllocation s) (InAllocation t) h = h.words
looked_words (InOrder s) (InOrder t) h = h.words
looked_words one other h = absurd h

pub stays_node : (u v : RoomSeat) → StaysSeat u v → IsOfOneNode (words_in u) (words_in v)
stays_node (InConstants s) (InConstants t) h = record { me = h.me; quorums = h.quorums }
stays_node (InExpressions s) (InExpressions t) h = record { me = h.me; quorums = h.quorums }
stays_node (InAllocation s) (InAllocation t) h = record { me = h.me; quorums = h.quorums }
stays_node (InOrder s) (InOrder t) h = record { me = h.me; quorums = h.quorums }
stays_node one other h = absurd h

pub stays_run : (u v : RoomSeat) → StaysSeat u v → IsOfRun (words_in u) → IsOfRun (words_in v)
stays_run (InConstants s) (InConstants t) h = h.run.of_run
stays_run (InExpressions s) (InExpressions t) h = h.run.of_run
stays_run (InAllocation s) (InAllocation t) h = h.run.of_run
stays_run (InOrder s) (InOrder t) h = h.run.of_run
stays_run one other h = absurd h

pub seat_stays : (u : RoomSeat) → StaysSeat u u
seat_stays (InConstants s) = stays_held s s (held_same s s refl)
seat_stays (InExpressions s) = stays_held s s (held_same s s refl)
seat_stays (InAllocation s) = stays_held s s (held_same s s refl)
seat_stays (InOrder s) = stays_held s s (held_same s s refl)

pub seat_through : (u v w : RoomSeat) → StaysSeat u v → StaysSeat v w → StaysSeat u w
seat_through (InConstants s) (InConstants m) (InConstants t) p q = stays_through s m t p q
seat_through (InConstants s) (InConstants m) other p q = absurd q
seat_through (InConstants s) other w p q = absurd p
seat_through (InExpressions s) (InExpressions m) (InExpressions t) p q = stays_through s m t p q
seat_through (InExpressions s) (InExpressions m) other p q = absurd q
seat_through (InExpressions s) other w p q = absurd p
seat_through (InAllocation s) (InAllocation m) (InAllocation t) p q = stays_through s m t p q
seat_through (InAllocation s) (InAllocation m) other p q = absurd q
seat_through (InAllocation s) other w p q = absurd p
seat_through (InOrder s) (InOrder m) (InOrder t) p q = stays_through s m t p q
seat_through (InOrder s) (InOrder m) other p q = absurd q
seat_through (InOrder s) other w p q = absurd p

-- ---- the texts of the offers in a node's own cells

pub own_in : (p : Which) (s : Fours) (text : List ℕ) → IsOwnIn (seat_of s p) text → IsOwnTextIn pass_texts p s text
own_in Constants s text own = own
own_in Expressions s text own = own
own_in Allocation s text own = own
own_in Order s text own = own

pub in_own : (p : Which) (s : Fours) (text : List ℕ) → IsOwnTextIn pass_texts p s text → IsOwnIn (seat_of s p) text
in_own Constants s text own = own
in_own Expressions s text own = own
in_own Allocation s text own = own
in_own Order s text own = own

pub own_stays : (u v : RoomSeat) → StaysSeat u v → (text : List ℕ) → IsOwnIn u text → IsOwnIn v text
own_stays (InConstants s) (InConstants t) stays text own = own_seeing IsConstants s t stays.me stays.seen text own
own_stays (InExpressions s) (InExpressions t) stays text own = own_seeing IsExpressions s t stays.me stays.seen text own
own_stays (InAllocation s) (InAllocation t) stays text own = own_seeing IsAllocation s t stays.me stays.seen text own
own_stays (InOrder s) (InOrder t) stays text own = own_seeing IsOrder s t stays.me stays.seen text own
own_stays one other stays text own = absurd stays
