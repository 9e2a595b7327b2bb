-- What a turn of a node tells.
use Rattle.std.specs.Prelude.{Option, Some, None}
use Rattle.farm_nodes_turn_function.specs.Fault.{Fault}
use Rattle.farm_nodes_turn_function.specs.Progress.{Progress}
use Rattle.farm_nodes_turn_function.specs.Progress.TheVariants as progress
use Rattle.farm_nodes_turn_node.specs.declared.turn.Turn.{Turn}
use Rattle.farm_nodes_turn_node.specs.declared.turn.Turn.TheVariants.{Learned, Moved, Idle, Failed}

abbrev pub turn_of : Progress → Turn
turn_of (progress.Learned v) = Learned v
turn_of progress.Moved = Moved
turn_of progress.Idle = Idle

-- the fault, where it failed
abbrev pub failure_of : Turn → Option Fault
failure_of (Learned v) = None
failure_of Moved = None
failure_of Idle = None
failure_of (Failed fault) = Some fault
