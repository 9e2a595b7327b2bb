-- What a crash leaves of a sound node's own disk.
use Rattle.std.specs.Prelude.{ℕ, ◌*◌, List, length, Option}
use Rattle.durable_model.specs.declared.disk.Disk as disks
use Rattle.acceptor_log_form.specs.declared.record.Record.{Record}
use Rattle.acceptor_log_form.specs.Order.{AreInOrder}
use Rattle.acceptor_log_form.specs.Text.{StandsFor}
use Rattle.acceptor_log.specs.declared.log.Log.{Log}
use Rattle.farm_nodes_restart_node.specs.Fours.{Four}
use Rattle.farm_nodes_turn_node.specs.Held.{IsSoundNode}
use Rattle.farm_nodes_restart_node.specs.Offers.{ConstantsOffer, ExpressionsOffer, AllocationOffer, OrderOffer}
use Rattle.farm_nodes_restart_node.specs.Texts.{pass_texts}
use Rattle.farm_nodes_turn_node.specs.declared.halted.Halted.{Halted}
use Rattle.farm_nodes_restart_node.specs.Found.{AreOther}
use Rattle.farm_nodes_restart_disks.specs.Stopped.{left_by, room_in}

module _ {D : Type 0} (disk : disks.Ghosts D) where
  -- its records are in order
  abbrev pub LeavesInOrder : Type 0
  LeavesInOrder =
      (log : Log D) (seats : List (Four ConstantsOffer ExpressionsOffer AllocationOffer OrderOffer)) (halted : Option Halted) (bytes : List ℕ) (rs : List Record)
      → IsSoundNode disk log seats halted → disk.is_honest log.disk → disk.may_leave log.disk bytes
      → StandsFor log.header rs bytes → AreInOrder log.header.nodes log.header.node (4 * length seats) rs

  -- and they are those of what its seats keep, with what is pending or without
  abbrev pub LeavesNoOthers : Type 0
  LeavesNoOthers =
      (log : Log D) (seats : List (Four ConstantsOffer ExpressionsOffer AllocationOffer OrderOffer)) (halted : Option Halted) (bytes : List ℕ) (rs : List Record)
      → IsSoundNode disk log seats halted → disk.is_honest log.disk → disk.may_leave log.disk bytes
      → StandsFor log.header rs bytes → AreOther pass_texts seats (room_in halted) (left_by halted) rs → ⊥
