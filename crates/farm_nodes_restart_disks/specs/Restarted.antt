-- What a restart of a node over a pair of disks leaves: the node comes back and goes on, or it is refused and stays stopped.
use Rattle.std.specs.Prelude.{◌≡◌, ◌*◌, ◌↔◌, true, length, Option, None, Some, Result, Ok, Err}
use Rattle.durable_model.specs.declared.disk.Disk as disks
use Rattle.durable_pair.specs.declared.pair.Pair as pairs
use Rattle.durable_pair.specs.Images.{IsSpent}
use Rattle.acceptor_log_form.specs.Order.{AreInOrder}
use Rattle.acceptor_log_form.specs.Text.{StandsFor}
use Rattle.acceptor_log.specs.Acknowledged.{acknowledged}
use Rattle.rooms_hall.specs.declared.hall.Naming as naming
use Rattle.farm_nodes_turn_node.specs.declared.farm_node.FarmNode.{FarmNode}
use Rattle.farm_nodes_restart_node.specs.Fours.{fours_of}
use Rattle.farm_nodes_restart_node.specs.Texts.{pass_texts}
use Rattle.farm_nodes_restart_seat.specs.declared.fault.RestartFault.{RestartFault}
use Rattle.farm_nodes_restart_node.specs.Seats.{HaveComeBack}
use Rattle.farm_nodes_open_old.specs.OnPairs.{IsShown, IsUntouched}
use Rattle.farm_nodes_restart_disks.specs.Cause.{HasCauseOn}
use Rattle.farm_nodes_restart_disks.specs.Left.{ShowsLeft}
use Rattle.farm_nodes_restart_disks.specs.Own.{IsOwnFault}
use Rattle.farm_nodes_restart_disks.specs.Stopped.{left_by, room_in, stopped_by}

-- ---- what a restart gives back, whether the node comes back or is refused

-- the node
abbrev pub node_of : {N P F : Type 0} → Result (N × P) (N × P × F) → N
node_of (Ok back) = back.0
node_of (Err refused) = refused.0

-- the fault, where it is refused
abbrev pub fault_told : {N P F : Type 0} → Result (N × P) (N × P × F) → Option F
fault_told (Ok back) = None
fault_told (Err refused) = Some refused.2

module _ {P O H : Type 0} {h : naming.Ghosts H} where
  -- the pair that was given: the node that comes back is on it, and it comes back beside a refused one
  abbrev pub pair_given : {F : Type 0} → Result (FarmNode P O H h × P) (FarmNode P O H h × P × F) → P
  pair_given (Ok back) = back.0.log.disk
  pair_given (Err refused) = refused.1

  -- its program, its optimisers and its generator are as they were
  pub record KeepsItsOwn (node now : FarmNode P O H h) : Type 0 where
    pub program : now.program ≡ node.program
    pub oracles : now.oracles ≡ node.oracles
    pub draws : now.draws ≡ node.draws

module _ {P O H : Type 0} {h : naming.Ghosts H} (disk : disks.Ghosts P) (pair : pairs.Ghosts P) where
  -- the disks that the node is on are honest, and those that are given show what a crash now may leave of them
  pub record IsLeftOfItsOwn (node : FarmNode P O H h) (given : P) : Type 0 where
    pub honest : disk.is_honest node.log.disk
    pub shows : ShowsLeft disk pair node.log.disk given

  -- ---- it comes back

  -- The old disk counts no more. The journal has acknowledged just the records that stand on the new one, in order, and over these its
  -- seats came back: what was pending is done where its record stands last, and then all have forgotten. The pair shows what it showed.
  pub record ComesBackOver (node : FarmNode P O H h) (given : P) (now : FarmNode P O H h) : Type 0 where
    pub spent : IsSpent (pair.old_seen given)
    pub listed : StandsFor node.log.header (acknowledged disk.seen now.log) (disk.seen given)
    pub in_order : AreInOrder node.log.header.nodes node.log.header.node (4 * length node.seats.items)
        (acknowledged disk.seen now.log)
    pub returned : HaveComeBack (room_in node.halted) (left_by node.halted) (acknowledged disk.seen now.log)
        node.seats.items now.seats.items
    pub shown : IsShown disk pair given now.log.disk

  -- It goes on, with the header that it had, on the given pair; the pair that it was on comes back.
  pub record NodeComesBack (node : FarmNode P O H h) (given : P) (back : FarmNode P O H h × P) : Type 0 where
    pub goes_on : back.0.halted ≡ None
    pub going : back.0.log.going ≡ true
    pub header : back.0.log.header ≡ node.log.header
    pub own_pair : back.1 ≡ node.log.disk
    pub honest : disk.is_honest back.0.log.disk ↔ pair.is_whole given
    pub over : pair.is_whole given → ComesBackOver node given back.0

  -- ---- it is refused

  -- The pair is whole as it was, and nothing was written. There is a cause in what stands there; over what a crash left of its own pair that is
  -- memory, a device that failed or a cell, so never other records.
  pub record IsRefusedOver (node : FarmNode P O H h) (given now : P) (fault : RestartFault) : Type 0 where
    pub whole : pair.is_whole now
    pub untouched : IsUntouched disk pair given now
    pub cause : HasCauseOn pass_texts node.log.header (4 * length node.seats.items) (fours_of node.seats.items)
        (room_in node.halted) (left_by node.halted) (disk.seen given, pair.old_seen given) fault
    pub own : IsLeftOfItsOwn node given → IsOwnFault fault

  -- It is stopped by that fault, with the same left to do; its journal and what its seats hold are as they were.
  pub record NodeIsRefused (node : FarmNode P O H h) (given : P) (refused : FarmNode P O H h × P × RestartFault) : Type 0 where
    pub log : refused.0.log ≡ node.log
    pub seats : fours_of refused.0.seats.items ≡ fours_of node.seats.items
    pub stopped : refused.0.halted ≡ Some (stopped_by refused.2 node.halted)
    pub over : pair.is_whole given → IsRefusedOver node given refused.1 refused.2
