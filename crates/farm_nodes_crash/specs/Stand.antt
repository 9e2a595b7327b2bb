-- What a farm is not refused for that opens over what a crash of all nodes left.
use Rattle.std.specs.Prelude.{◌≡◌, ◌≢◌, ℕ, ◌<◌, List, length, Option, Some, None, slice_get}
use Rattle.std.specs.Global.{Vec}
use Rattle.durable_model.specs.declared.disk.Disk as disks
use Rattle.durable_pair.specs.declared.pair.Pair as pairs
use Rattle.paxos_core_world.specs.KeptPart.{KeptPart}
use Rattle.paxos_core_world.specs.Quorum.{Sizes}
use Rattle.acceptor_log_form.specs.declared.errors.LogError.{LogError}
use Rattle.acceptor_log_form.specs.declared.errors.LogError.TheVariants.{Device, NoMemory}
use Rattle.acceptor_log.specs.Acknowledged.{acknowledged}
use Rattle.acceptor_log.specs.declared.log.Log.{Log}
use Rattle.farm_nodes_turn_node.specs.declared.halted.Halted.{Halted}
use Rattle.farm_nodes_open_numbers.specs.Kept.{AreSettled}
use Rattle.farm_nodes_open_numbers.specs.declared.fault.RoomFault.TheVariants.{Unsettled}
use Rattle.farm_nodes_open_stored.specs.Nodes.{AreMade}
use Rattle.farm_nodes_open_stored.specs.Read.{AreKept}
use Rattle.farm_nodes_open_nodes.specs.FarmNodesOpenSeatsRefused.{HasBadRecord, HasRefusedOffer, IsRoomUnopened}
use Rattle.farm_nodes_open_nodes.specs.Refused.{IsRefusedJournal, OfJournals}
use Rattle.farm_nodes_crash_left.specs.Left.{AreLeftOf, IsNode, NodeSeats}
use Rattle.farm_nodes_crash.specs.Meeting.{HearAll}
use Rattle.farm_nodes_crash.specs.Rooms.{RoomsRest}

module _ {D : Type 0} (disk : disks.Ghosts D) (pair : pairs.Ghosts D) (q : Sizes) where
  module _ (digest : List ℕ) (functions : ℕ) (given : List D) where
    -- no journal is refused, but for want of memory or where a device fails
    abbrev pub JournalsStand : Type 0
    JournalsStand =
        (node : ℕ) (fault : LogError) → IsRefusedJournal disk pair q digest given node fault → fault ≢ NoMemory → fault ≢ Device → ⊥

    -- no records are out of order, and each offer among them is one of its room's pass
    abbrev pub RecordsStand : Type 0
    RecordsStand = (node : ℕ) → OfJournals disk pair q digest given (λ journals. HasBadRecord functions journals node) → ⊥

    -- and its pass accepts each of these offers
    abbrev pub OffersStand : Type 0
    OffersStand = (node : ℕ) → OfJournals disk pair q digest given (λ journals. HasRefusedOffer functions journals node) → ⊥

    -- no room is unsettled
    abbrev pub RoomsStand : Type 0
    RoomsStand = (room : ℕ) → OfJournals disk pair q digest given (λ journals. IsRoomUnopened functions journals q room Unsettled) → ⊥

  -- What the journals have acknowledged leaves settled parts of each room. So it is as a farm opens.
  pub record AreSettledFrom (functions : ℕ) (logs : List (Log D)) : Type 0 where
    pub kept : List (Vec KeptPart)
    pub are_kept : AreMade (λ i log k. disk.is_honest log.disk → AreKept functions (length logs) i (acknowledged disk.seen log) k.items)
        logs (length logs) kept
    pub settled : (f : ℕ) → f < functions → AreSettled q kept f

  -- These are the journals of the nodes by number, none of which is stopped.
  pub record AreGoing (opened : List (Log D)) (logs : ℕ → Log D) (halted : ℕ → Option Halted) : Type 0 where
    pub count : length opened ≡ q.nodes
    pub same : (i : ℕ) (log : Log D) → slice_get opened i ≡ Some log → log ≡ logs i
    pub going : (i : ℕ) → i < q.nodes → halted i ≡ None

  -- ---- the promises

  -- a crash of all nodes leaves journals that stand, with offers that are accepted, whatever the nodes were at
  abbrev pub LeftJournalsStand : Type 0
  LeftJournalsStand =
      (digest : List ℕ) (functions : ℕ) (logs : ℕ → Log D) (seats : ℕ → NodeSeats) (halted : ℕ → Option Halted) (given : List D)
      → AreLeftOf disk pair q digest functions logs seats halted given
      → JournalsStand digest functions given × RecordsStand digest functions given × OffersStand digest functions given

  -- and where the nodes rest in each room, the rooms stand
  abbrev pub LeftRoomsStand : Type 0
  LeftRoomsStand =
      (digest : List ℕ) (functions : ℕ) (logs : ℕ → Log D) (seats : ℕ → NodeSeats) (halted : ℕ → Option Halted) (given : List D)
      → AreLeftOf disk pair q digest functions logs seats halted given → RoomsRest q functions seats
      → RoomsStand digest functions given

  -- they rest where one of them hears of all in meetings, and all of it again, whatever they did before
  abbrev pub MetNodesRest : Type 0
  MetNodesRest =
      (digest : List ℕ) (functions : ℕ) (logs : ℕ → Log D) (seats : ℕ → NodeSeats) (halted : ℕ → Option Halted)
      → ((i : ℕ) → i < q.nodes → IsNode disk pair q digest functions i (logs i) (seats i) (halted i))
      → (h : ℕ) → HearAll q functions h seats → RoomsRest q functions seats

  -- and the rooms stand right after the farm has opened, before a node takes a turn
  abbrev pub OpenedRoomsStand : Type 0
  OpenedRoomsStand =
      (digest : List ℕ) (functions : ℕ) (logs : ℕ → Log D) (seats : ℕ → NodeSeats) (halted : ℕ → Option Halted) (given : List D)
      → AreLeftOf disk pair q digest functions logs seats halted given
      → (opened : List (Log D)) → AreSettledFrom functions opened → AreGoing opened logs halted → RoomsStand digest functions given
