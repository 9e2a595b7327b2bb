-- What keeps a farm from opening that does not stand on its disks.
use Rattle.std.specs.Prelude.{◌≡◌, ◌≢◌, ◌⊎◌, ℕ, List}
use Rattle.std.specs.Global.{Vec}
use Rattle.durable_model.specs.declared.disk.Disk as disks
use Rattle.durable_pair.specs.declared.pair.Pair as pairs
use Rattle.lang_base.specs.declared.program.Program.{Program}
use Rattle.rtl_language.specs.Function.{FunctionData}
use Rattle.paxos_core_world.specs.Quorum.{Sizes}
use Rattle.acceptor_log_form.specs.declared.errors.LogError.TheVariants as journal
use Rattle.farm_nodes_open_numbers.specs.declared.fault.RoomFault.TheVariants.{Unsettled}
use Rattle.farm_nodes_open_nodes.specs.OpenFault.{OpenFault}
use Rattle.farm_nodes_open_nodes.specs.OpenFault.TheVariants.{NoMemory, Journal, Refused, Room}
use Rattle.farm_nodes_open_nodes.specs.Refused.{TellsJournal, TellsOffer, TellsRoom}

-- it is want of memory or of a number of the hall, a device that failed, or a cell that refuses
abbrev pub IsOfMachine : OpenFault → Type 0
IsOfMachine NoMemory = Unit {0}
IsOfMachine (Journal node fault) = (fault ≡ journal.NoMemory) ⊎ (fault ≡ journal.Device)
IsOfMachine (Refused node) = ⊥
IsOfMachine (Room room fault) = fault ≢ Unsettled

-- whatever is told of these pairs as a farm is refused over them is of the machine
abbrev pub OpensButForMachine : {D : Type 0} → disks.Ghosts D → pairs.Ghosts D → Sizes → List ℕ → Program FunctionData → List D → Type 0
OpensButForMachine {D} disk pair q digest program given =
    (told : Vec D × OpenFault) → TellsJournal disk pair q digest given program told → TellsOffer disk pair q digest given program told
    → TellsRoom disk pair q digest given program told → IsOfMachine told.1
