-- One turn of a node, and several, one after another.
use Rattle.std.specs.Prelude.{◌≡◌, ◌≢◌, ◌<◌, ◌≤◌, ℕ, length, None}
use Rattle.durable_model.specs.declared.disk.Disk as disks
use Rattle.rooms_hall.specs.declared.hall.Naming as naming
use Rattle.farm_nodes_turn_node.specs.Numbers.{function_of}
use Rattle.farm_nodes_turn_node.specs.Served.{IsServed}
use Rattle.farm_nodes_turn_node.specs.Turning.{DoesNothing, JournalTurns, LeavesRoom, StaysElsewhere, TellsTurn}
use Rattle.farm_nodes_turn_node.specs.declared.farm_node.FarmNode.{FarmNode}
use Rattle.farm_nodes_turn_node.specs.declared.turn.Turn.{Turn}
use Rattle.farm_nodes_threads_pace.specs.After.{After}

module _ {D O H : Type 0} {h : naming.Ghosts H} (disk : disks.Ghosts D) where
  -- A turn in a room of the program, in the words of the call that takes it.
  pub record TakesTurn (old new : FarmNode D O H h) : Type 0 where
    pub room : ℕ
    pub told : Turn
    pub within : function_of room < length old.seats.items
    pub served : IsServed disk old.log new.log
    pub stopped : old.halted ≢ None → DoesNothing old new told
    pub others : StaysElsewhere room old new
    pub leaves : LeavesRoom room old new
    pub tells : TellsTurn disk room old new told
    pub journal : disk.is_honest old.log.disk → old.halted ≡ None → JournalTurns disk old new

  -- it took at most so many turns, and nothing else was done with it
  pub record TakesAtMost (most : ℕ) (old new : FarmNode D O H h) : Type 0 where
    pub taken : ℕ
    pub counted : taken ≤ most
    pub after : After TakesTurn taken old new
