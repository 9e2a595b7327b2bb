-- The pairs of disks of a farm's nodes after a crash of all of them.
use Rattle.std.specs.Prelude.{◌≡◌, ℕ, ◌<◌, List, length, Option, Some, None, slice_get}
use Rattle.durable_model.specs.declared.disk.Disk as disks
use Rattle.durable_pair.specs.declared.pair.Pair as pairs
use Rattle.paxos_core_world.specs.Quorum.{Sizes}
use Rattle.acceptor_log.specs.declared.log.Log.{Log}
use Rattle.farm_nodes_turn_passes.specs.Offers.{IsConstants, IsExpressions, IsAllocation, IsOrder}
use Rattle.farm_nodes_turn_passes.specs.Leaves.{MayPend}
pub use Rattle.farm_nodes_meetings.specs.Meetings.{NodeSeats}
use Rattle.farm_nodes_turn_node.specs.declared.halted.Halted.{Halted}
use Rattle.farm_nodes_turn_node.specs.Held.{IsSoundNode}
use Rattle.farm_nodes_restart_disks.specs.Left.{ShowsLeft}
use Rattle.farm_nodes_open_journals.specs.Journals.{header_of}

-- where it is stopped, it may have an act pending that it was asked of a node of the room, or its offer
abbrev pub IsWaitingWith : NodeSeats → Option Halted → Type 0
IsWaitingWith seats None = Unit {0}
IsWaitingWith seats (Some h) = MayPend IsConstants IsExpressions IsAllocation IsOrder h.room seats h.halt.pending

module _ {D : Type 0} (disk : disks.Ghosts D) (pair : pairs.Ghosts D) (q : Sizes) (digest : List ℕ) (functions : ℕ) where
  -- Node i of a farm with quorums of these sizes, over a text with this digest, of so many functions: it may be asked, and its disk is honest.
  pub record IsNode (i : ℕ) (log : Log D) (seats : NodeSeats) (halted : Option Halted) : Type 0 where
    pub sound : IsSoundNode disk log seats halted
    pub waiting : IsWaitingWith seats halted
    pub header : log.header ≡ header_of q digest i
    pub functions_are : length seats ≡ functions
    pub honest : disk.is_honest log.disk

  -- both disks of the pair are honest, and show what a crash now may leave of those that this journal is on
  pub record IsLeftOf (log : Log D) (p : D) : Type 0 where
    pub whole : pair.is_whole p
    pub shows : ShowsLeft disk pair log.disk p

  -- a crash of all nodes of a farm leaves these pairs, in the order of the nodes
  pub record AreLeftOf (logs : ℕ → Log D) (seats : ℕ → NodeSeats) (halted : ℕ → Option Halted) (given : List D) : Type 0 where
    pub count : length given ≡ q.nodes
    pub nodes : (i : ℕ) → i < q.nodes → IsNode i (logs i) (seats i) (halted i)
    pub left : (i : ℕ) (p : D) → slice_get given i ≡ Some p → IsLeftOf (logs i) p
