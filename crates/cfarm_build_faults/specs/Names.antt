-- The names that a user is shown beside the numbers of faults.
use Rattle.std.specs.Prelude.{ℕ, List, codes}
use Rattle.acceptor_log_form.specs.declared.errors.LogError.{LogError}
use Rattle.acceptor_log_form.specs.declared.errors.LogError.TheVariants as L
use Rattle.farm_nodes_turn_offer.specs.declared.halt.Fault.{Fault}
use Rattle.farm_nodes_turn_offer.specs.declared.halt.Fault.TheVariants as F
use Rattle.farm_nodes.specs.LinkError.{LinkError}
use Rattle.farm_nodes.specs.LinkError.TheVariants as K

abbrev pub journal_name : LogError → List ℕ
journal_name L.NoMemory = codes "NoMemory"
journal_name L.Device = codes "Device"
journal_name L.NotAJournal = codes "NotAJournal"
journal_name L.BadRecord = codes "BadRecord"
journal_name L.OtherSource = codes "OtherSource"
journal_name L.Stopped = codes "Stopped"
journal_name L.Full = codes "Full"

abbrev pub fault_name : Fault → List ℕ
fault_name F.NoMemory = codes "NoMemory"
fault_name (F.Journal fault) = journal_name fault
fault_name F.TooManyRegisters = codes "TooManyRegisters"
fault_name F.OtherRecords = codes "OtherRecords"
fault_name F.CellRefused = codes "CellRefused"

abbrev pub link_name : LinkError → List ℕ
link_name K.NoMemory = codes "NoMemory"
link_name (K.TooManyNodes function) = codes "TooManyNodes"
link_name (K.Missing function) = codes "Missing"
link_name (K.Unchained function) = codes "Unchained"
link_name K.Names = codes "Names"
