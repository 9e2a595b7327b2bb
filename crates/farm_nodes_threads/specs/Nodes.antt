-- A node before and behind the turns that it took.
use Rattle.std.specs.Prelude.{◌≡◌, ℕ, None}
use Rattle.std.specs.Arc.{arc_value}
use Rattle.durable_model.specs.declared.disk.Disk as disks
use Rattle.rooms_hall.specs.declared.hall.Naming as naming
use Rattle.farm_nodes_turn_node.specs.Fours.{fours_of}
use Rattle.farm_nodes_turn_node.specs.declared.farm_node.FarmNode.{FarmNode}
use Rattle.farm_nodes_threads.specs.CameBack.{CameBack}
use Rattle.farm_nodes_threads.specs.OneTurn.{TakesAtMost}
use Rattle.farm_nodes_threads.specs.Stopped.{IsStoppedFor}

module _ {D O H : Type 0} {h : naming.Ghosts H} (disk : disks.Ghosts D) where
  -- it came back from its turns with what they recorded
  abbrev pub CameBackNode : FarmNode D O H h → FarmNode D O H h → Type 0
  CameBackNode n m =
      CameBack disk n.log m.log (fours_of n.seats.items) (fours_of m.seats.items) n.halted m.halted

  -- where it was going and is stopped, there is a cause
  abbrev pub StopsForCause : FarmNode D O H h → FarmNode D O H h → Type 0
  StopsForCause n m =
      n.halted ≡ None → IsStoppedFor disk (arc_value n.program).functions n.log m.log (fours_of m.seats.items) m.halted

  -- It is of the same program, and came back with what at most so many turns recorded; where one of them stopped it, there is a cause.
  abbrev pub NodeCameBack : ℕ → FarmNode D O H h → FarmNode D O H h → Type 0
  NodeCameBack most n m =
      (m.program ≡ n.program) × CameBackNode n m × StopsForCause n m × TakesAtMost disk most n m
