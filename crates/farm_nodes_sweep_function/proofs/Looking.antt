-- Looks in a room, one after another.
use Rattle.std.proofs.Common.{refl, ◌∙◌}
use Rattle.offers.specs.declared.parts.Parts.{Parts}
use Rattle.farm_nodes_turn_function.specs.SeatValue.{SeatValue}
use Rattle.farm_nodes_turn_function.specs.Played.{IsLearnedOutput}
use Rattle.farm_nodes_turn_passes.specs.declared.which.Which.{Which}
use Rattle.farm_nodes_turn_passes.specs.declared.which.Which.TheVariants.{Constants, Expressions, Allocation, Order}
use Rattle.farm_nodes_turn_step.proofs.Answering.{heard_through}
use Rattle.farm_nodes_sweep_step.proofs.Stepping.{looked_same}
use Rattle.farm_nodes_sweep_function.specs.RoomSeat.{Fours, seat_of}
use Rattle.farm_nodes_sweep_function.specs.Staged.{Looks, LooksIn}

looks_same : {T : Type 0} (s : SeatValue T) → Looks s s
looks_same s = record { words = looked_same s.words; room = record { table = refl; cells = refl }; seen = λ j x is. is }

looks_on : {T : Type 0} (a b c : SeatValue T) → Looks a b → Looks b c → Looks a c
looks_on a b c p q = record {
  words = record {
    heard = heard_through a.words b.words c.words p.words.heard q.words.heard;
    kept = q.words.kept ∙ p.words.kept;
    proposed = q.words.proposed ∙ p.words.proposed;
  };
  room = record { table = p.room.table ∙ q.room.table; cells = p.room.cells ∙ q.room.cells };
  seen = λ j x is. q.seen j x (p.seen j x is);
}

-- in each room of a function
pub each_same : (p : Which) (s : Fours) → LooksIn (seat_of s p) (seat_of s p)
each_same Constants s = looks_same s.constants
each_same Expressions s = looks_same s.expressions
each_same Allocation s = looks_same s.allocation
each_same Order s = looks_same s.order

pub each_on : (p : Which) (a b c : Fours) → LooksIn (seat_of a p) (seat_of b p) → LooksIn (seat_of b p) (seat_of c p) → LooksIn (seat_of a p) (seat_of c p)
each_on Constants a b c p q = looks_on a.constants b.constants c.constants p q
each_on Expressions a b c p q = looks_on a.expressions b.expressions c.expressions p q
each_on Allocation a b c p q = looks_on a.allocation b.allocation c.allocation p q
each_on Order a b c p q = looks_on a.order b.order c.order p q

-- what was learned and seen stays
pub learned_on : {I O C : Type 0} (s t : SeatValue (Parts I O C)) (made : O) → Looks s t → IsLearnedOutput s made → IsLearnedOutput t made
learned_on s t made looks is = record {
  value = is.value;
  offer = is.offer;
  learned = looks.words.heard.learned is.value is.learned;
  seen = looks.seen is.value is.offer is.seen;
  output = is.output;
}
