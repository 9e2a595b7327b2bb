-- A node's seats come back: the same of its four passes as they are.
use Rattle.std.specs.Prelude.{ℕ, List, Option}
use Rattle.acceptor_log_form.specs.declared.record.Record.{Record}
use Rattle.rooms_hall.specs.declared.hall.Naming as naming
use Rattle.farm_nodes_turn_step.specs.declared.stop.Pending.{Pending}
use Rattle.farm_nodes_restart_records.specs.NumberedSeat.{NumberedSeat}
use Rattle.farm_nodes_restart_records.specs.Which.{Which}
use Rattle.farm_nodes_restart_records.specs.Fours.{four_of, fours_of}
use Rattle.farm_nodes_restart_records.specs.Leaves.{IsPendingIn}
use Rattle.farm_nodes_restart_records.specs.Offers.{IsConstants, IsExpressions, IsAllocation, IsOrder}
use Rattle.farm_nodes_restart_node.specs.Returned.{HasStepped, HaveReturned, IsTaken, TookIn}

module _ {H : Type 0} {h : naming.Ghosts H} where
  -- it may be pending with the seat of this pass
  abbrev pub IsPendingWith : NumberedSeat H h → ℕ → Which → Pending → Type 0
  IsPendingWith s room which p = IsPendingIn IsConstants IsExpressions IsAllocation IsOrder room which (four_of s) p

  -- it is done with the seat of this pass
  abbrev pub TookWith : ℕ → Which → Pending → NumberedSeat H h → NumberedSeat H h → Type 0
  TookWith room which p old new = TookIn IsConstants IsExpressions IsAllocation IsOrder room which p (four_of old) (four_of new)

  -- it is done with the seat of the room
  abbrev pub AreTaken : ℕ → Option Pending → List (NumberedSeat H h) → List (NumberedSeat H h) → Type 0
  AreTaken room p old new = IsTaken IsConstants IsExpressions IsAllocation IsOrder room p (fours_of old) (fours_of new)

  -- it is done where its record stands last
  abbrev pub HaveStepped : ℕ → Option Pending → List Record → List (NumberedSeat H h) → List (NumberedSeat H h) → Type 0
  HaveStepped room p rs old new = HasStepped IsConstants IsExpressions IsAllocation IsOrder room p rs (fours_of old) (fours_of new)

  -- and then all have forgotten
  abbrev pub HaveComeBack : ℕ → Option Pending → List Record → List (NumberedSeat H h) → List (NumberedSeat H h) → Type 0
  HaveComeBack room p rs old new = HaveReturned IsConstants IsExpressions IsAllocation IsOrder room p rs (fours_of old) (fours_of new)
