-- Turns in the rooms of the passes up to one, and what they leave of the others.
use Rattle.std.specs.Prelude.{◌≡◌, ◌<◌, ℕ, Some, slice_get}
use Rattle.durable_model.specs.declared.disk.Disk as disks
use Rattle.rooms_hall.specs.declared.hall.Naming as naming
use Rattle.farm_nodes_turn_node.specs.Fours.{Four, four_of}
use Rattle.farm_nodes_turn_node.specs.Numbers.{place_of}
use Rattle.farm_nodes_turn_node.specs.NumberedSeat.{NumberedSeat}
use Rattle.farm_nodes_turn_node.specs.Which.{Which}
use Rattle.farm_nodes_turn_node.specs.Which.TheVariants.{Constants, Expressions, Allocation, Order}
use Rattle.farm_nodes_turn_node.specs.declared.farm_node.FarmNode.{FarmNode}
use Rattle.farm_nodes_threads.specs.OneTurn.{TakesTurn}
use Rattle.farm_nodes_threads_until.specs.Places.{IsEarly}

-- the seat in the room of this pass is as it was
abbrev pub IsSameIn : {T1 T2 T3 T4 : Type 0} → Which → Four T1 T2 T3 T4 → Four T1 T2 T3 T4 → Type 0
IsSameIn Constants s t = t.constants ≡ s.constants
IsSameIn Expressions s t = t.expressions ≡ s.expressions
IsSameIn Allocation s t = t.allocation ≡ s.allocation
IsSameIn Order s t = t.order ≡ s.order

-- so it is in the room of each pass behind this one
abbrev pub IsSameBehind : {T1 T2 T3 T4 : Type 0} → Which → Four T1 T2 T3 T4 → Four T1 T2 T3 T4 → Type 0
IsSameBehind until s t = (p : Which) → place_of until < place_of p → IsSameIn p s t

module _ {D O H : Type 0} {h : naming.Ghosts H} where
  -- a turn in a room of one of the passes up to this one
  pub record TakesEarlyTurn (disk : disks.Ghosts D) (until : Which) (old new : FarmNode D O H h) : Type 0 where
    pub turn : TakesTurn disk old new
    pub early : IsEarly until turn.room

  -- nothing was done in the rooms of later passes: of each function the seats there are as they were
  abbrev pub StaysBehind : Which → FarmNode D O H h → FarmNode D O H h → Type 0
  StaysBehind until old new =
      (f : ℕ) (s t : NumberedSeat H h) → slice_get old.seats.items f ≡ Some s → slice_get new.seats.items f ≡ Some t
      → IsSameBehind until (four_of s) (four_of t)
