-- What is refused of the pairs of disks of a farm.
use Rattle.std.specs.Prelude.{◌≡◌, ◌⊎◌, ℕ, List, length, Some, slice_get}
use Rattle.std.specs.Global.{Vec}
use Rattle.durable_model.specs.declared.disk.Disk as disks
use Rattle.durable_pair.specs.declared.pair.Pair as pairs
use Rattle.lang_base.specs.declared.program.Program.{Program}
use Rattle.rtl_language.specs.Function.{FunctionData}
use Rattle.paxos_core_world.specs.Quorum.{Sizes}
use Rattle.acceptor_log_form.specs.declared.errors.LogError.{LogError}
use Rattle.acceptor_log_form.specs.declared.errors.LogError.TheVariants.{BadRecord}
use Rattle.acceptor_log_form.specs.declared.record.Record.{Record}
use Rattle.acceptor_log.specs.declared.log.Log.{Log}
use Rattle.farm_nodes_open_journals.specs.Journals.{header_of, AreOpened, IsRefused}
use Rattle.farm_nodes_open_seats.specs.RoomFault.{RoomFault}
use Rattle.farm_nodes_open_seats.specs.Refused.{HasBadRecord, HasRefusedOffer, IsRoomUnopened}
use Rattle.farm_nodes_open_seats.specs.declared.fault.OpenFault.{OpenFault}
use Rattle.farm_nodes_open_seats.specs.declared.fault.OpenFault.TheVariants.{Journal, Refused, Room}

module _ {D : Type 0} (disk : disks.Ghosts D) (pair : pairs.Ghosts D) (q : Sizes) (digest : List ℕ) (given : List D) where
  -- The journal of this node is refused, and those in front of it were opened.
  pub record IsRefusedJournal (node : ℕ) (fault : LogError) : Type 0 where
    pub journals : List (Log D × Vec Record)
    pub front : AreOpened disk pair q digest given node journals
    pub on : D
    pub back : D
    pub stands : slice_get given node ≡ Some on
    pub refused : IsRefused disk pair (header_of q digest node) on back fault

  -- all journals were opened, and so it is of them
  abbrev pub OfJournals : (List (Log D × Vec Record) → Type 0) → Type 0
  OfJournals Holds = (journals : List (Log D × Vec Record)) × AreOpened disk pair q digest given (length given) journals × Holds journals

  -- what it says of the pairs, and of the program that is compiled, that this is told, beside what comes back
  module _ {B : Type 0} (program : Program FunctionData) (told : B × OpenFault) where
    -- a journal is refused, or its records are
    abbrev pub TellsJournal : Type 0
    TellsJournal = (node : ℕ) (fault : LogError) → told.1 ≡ Journal node fault
        → IsRefusedJournal node fault ⊎ ((fault ≡ BadRecord) × OfJournals (λ journals. HasBadRecord (length program.functions) journals node))

    -- an offer is refused by its pass
    abbrev pub TellsOffer : Type 0
    TellsOffer = (node : ℕ) → told.1 ≡ Refused node → OfJournals (λ journals. HasRefusedOffer (length program.functions) journals node)

    -- a room is not opened
    abbrev pub TellsRoom : Type 0
    TellsRoom = (room : ℕ) (fault : RoomFault) → told.1 ≡ Room room fault
        → OfJournals (λ journals. IsRoomUnopened (length program.functions) journals q room fault)
