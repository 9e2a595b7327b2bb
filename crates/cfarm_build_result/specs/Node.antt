-- What is said of a node of a farm.
use Rattle.std.specs.Prelude.{List, Option}
use Rattle.acceptor_log.specs.declared.log.Log.{Log}
use Rattle.rooms_hall.specs.declared.hall.Naming as naming
use Rattle.farm_nodes_link.specs.NumberedSeat.{NumberedSeat}
use Rattle.farm_nodes_link.specs.Halted.{Halted}

-- its journal, its seats, and what stopped it
pub record Node (D : Type 0) (H : Type 0) (h : naming.Ghosts H) : Type 0 where
  pub log : Log D
  pub seats : List (NumberedSeat H h)
  pub halted : Option Halted

abbrev pub node : {D : Type 0} {H : Type 0} {h : naming.Ghosts H} → Log D → List (NumberedSeat H h) → Option Halted → Node D H h
node log seats halted = record { log = log; seats = seats; halted = halted }
