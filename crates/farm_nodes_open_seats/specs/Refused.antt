-- What is refused of what stands in the journals of a farm.
use Rattle.std.specs.Prelude.{◌≡◌, ◌≢◌, ℕ, ◌<◌, ◌*◌, List, length}
use Rattle.std.specs.Global.{Vec}
use Rattle.paxos_core_world.specs.KeptPart.{KeptPart}
use Rattle.paxos_core_world.specs.Quorum.{Sizes}
use Rattle.acceptor_log_form.specs.declared.errors.LogError.{LogError}
use Rattle.acceptor_log_form.specs.declared.errors.LogError.TheVariants.{BadRecord}
use Rattle.acceptor_log_form.specs.declared.record.Record.{Record}
use Rattle.farm_nodes_open_stored.specs.Nodes.{AreMade, AtNode}
use Rattle.farm_nodes_open_stored.specs.Read.{IsBadPart, IsKeptPart, WereRead}
use Rattle.farm_nodes_open_stored.specs.Checked.{WasRefused, WereAccepted}
use Rattle.farm_nodes_open_rooms.specs.Kept.{IsOfferedIn, IsSettledIn}
use Rattle.farm_nodes_open_rooms.specs.Left.{AreLeftIn}
use Rattle.farm_nodes_open_rooms.specs.RoomFault.{RoomFault}
use Rattle.farm_nodes_open_rooms.specs.RoomFault.TheVariants.{CellRefused, Unsettled}
use Rattle.farm_nodes_open_rooms.specs.Opened.{IsSettledBefore}
use Rattle.farm_nodes_open_seats.specs.declared.fault.OpenFault.{OpenFault}
use Rattle.farm_nodes_open_seats.specs.declared.fault.OpenFault.TheVariants.{Journal, Refused, Room}

module _ {J : Type 0} (functions : ℕ) (journals : List (J × Vec Record)) where
  -- This node's records are out of order, or one is no offer; what stands in those of the nodes in front of it was read.
  pub record HasBadRecord (node : ℕ) : Type 0 where
    pub at : AtNode (IsBadPart functions (length journals)) node journals
    pub front : WereRead functions journals node

  -- This node has an offer that its pass does not accept, and none in front of it has; what stands in the records of all was read.
  pub record HasRefusedOffer (node : ℕ) : Type 0 where
    pub at : AtNode (λ i j. WasRefused j) node journals
    pub front : WereAccepted journals node
    pub read : WereRead functions journals (length journals)

  -- This room is not opened. The offers of all nodes were accepted, and what they have kept of the rooms in front of it is settled.
  -- Of itself it is not, which no farm leaves; or an offer that was made there is not taken by its cell.
  pub record IsRoomUnopened (q : Sizes) (room : ℕ) (fault : RoomFault) : Type 0 where
    pub kept : List (Vec KeptPart)
    pub are_kept : AreMade (IsKeptPart functions (length journals)) journals (length journals) kept
    pub accepted : WereAccepted journals (length journals)
    pub within : room < 4 * functions
    pub before : IsSettledBefore q kept room
    pub unsettled : fault ≡ Unsettled → IsSettledIn q kept room → ⊥
    pub left : AreLeftIn q kept functions → fault ≢ Unsettled
    pub refused : fault ≡ CellRefused → IsOfferedIn kept room

-- what it says of journals that this is told of them
module _ {J : Type 0} (functions : ℕ) (journals : List (J × Vec Record)) (told : OpenFault) where
  abbrev pub TellsRecords : Type 0
  TellsRecords = (node : ℕ) (fault : LogError) → told ≡ Journal node fault → (fault ≡ BadRecord) × HasBadRecord functions journals node

  abbrev pub TellsOffer : Type 0
  TellsOffer = (node : ℕ) → told ≡ Refused node → HasRefusedOffer functions journals node

  abbrev pub TellsRoom : Sizes → Type 0
  TellsRoom q = (room : ℕ) (fault : RoomFault) → told ≡ Room room fault → IsRoomUnopened functions journals q room fault
