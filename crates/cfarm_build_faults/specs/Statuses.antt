-- The exit status of the program where nothing is built: 1 where the text is refused, 3 where a node does not link, 4 for what the
-- journals hold or what is linked, 7 for want of memory or of a thread.
use Rattle.std.specs.Prelude.{ℕ, zero, suc}
use Rattle.farm_nodes.specs.SourceFault.{SourceFault}
use Rattle.farm_nodes.specs.Told as texts
use Rattle.farm_nodes.specs.OpenFault.{OpenFault}
use Rattle.farm_nodes_turn_offer.specs.declared.halt.Fault.{Fault}
use Rattle.farm_nodes_turn_offer.specs.Halted as halts
use Rattle.farm_nodes.specs.Numbers.{disks_number_of}
use Rattle.cfarm_build_faults.specs.declared.error.BuildError.{BuildError}
use Rattle.cfarm_build_faults.specs.declared.error.BuildError.TheVariants.{NoMemory, NoThread, Source, Disks, Failed, Undecided, Unlinked, Names}

-- 7 for the number of want of memory, this one for others
abbrev pub unless_memory : ℕ → ℕ → ℕ
unless_memory zero status = status
unless_memory (suc zero) status = 7
unless_memory (suc (suc _)) status = status

abbrev pub source_status_of : SourceFault → ℕ
source_status_of fault = unless_memory (texts.number_of fault) 1

abbrev pub disks_status_of : OpenFault → ℕ
disks_status_of fault = unless_memory (disks_number_of fault) 4

abbrev pub failed_status_of : Fault → ℕ
failed_status_of fault = unless_memory (halts.number_of fault) 4

abbrev pub status_of : BuildError → ℕ
status_of NoMemory = 7
status_of NoThread = 7
status_of (Source fault) = source_status_of fault
status_of (Disks fault) = disks_status_of fault
status_of (Failed node fault) = failed_status_of fault
status_of Undecided = 3
status_of (Unlinked fault function) = 4
status_of Names = 4
