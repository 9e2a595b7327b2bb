-- The line that a user is shown where nothing is built.
use Rattle.std.specs.Prelude.{ℕ, zero, suc, List, ◌++◌, codes}
use Rattle.std.specs.Fmt.{decimal}
use Rattle.std.specs.String.{string_bytes}
use Rattle.acceptor_log_form.specs.Refusals as journals
use Rattle.acceptor_log_form.specs.declared.errors.LogError.{LogError}
use Rattle.acceptor_log_form.specs.declared.errors.LogError.TheVariants as L
use Rattle.farm_nodes.specs.Told.{source_line}
use Rattle.farm_nodes_turn_offer.specs.declared.halt.Fault.{Fault}
use Rattle.farm_nodes_turn_offer.specs.Halted as halts
use Rattle.farm_nodes.specs.RoomFault.{RoomFault}
use Rattle.farm_nodes.specs.RoomFault.TheVariants as R
use Rattle.farm_nodes.specs.OpenFault.{OpenFault}
use Rattle.farm_nodes.specs.OpenFault.TheVariants as O
use Rattle.farm_nodes.specs.FarmNodesLinkNumbers.{number_of_link_error}
use Rattle.cfarm_build_faults.specs.Names.{fault_name, journal_name, link_name}
use Rattle.cfarm_build_faults.specs.declared.error.BuildError.{BuildError}
use Rattle.cfarm_build_faults.specs.declared.error.BuildError.TheVariants.{NoMemory, NoThread, Source, Disks, Failed, Undecided, Unlinked, Names}

-- a fault of a node, by its number and its name; want of memory is told as such
abbrev pub node_line : ℕ → List ℕ → ℕ → List ℕ
node_line zero name node = codes "journal " ++ (decimal 0 ++ (codes " " ++ (name ++ (codes " node " ++ decimal node))))
node_line (suc zero) name node = codes "memory"
node_line (suc (suc n)) name node = codes "journal " ++ (decimal (suc (suc n)) ++ (codes " " ++ (name ++ (codes " node " ++ decimal node))))

abbrev pub failed_line : ℕ → Fault → List ℕ
failed_line node fault = node_line (halts.number_of fault) (fault_name fault) node

abbrev pub room_line : ℕ → RoomFault → List ℕ
room_line room R.NoMemory = codes "memory"
room_line room R.Spent = codes "memory"
room_line room R.Unsettled = codes "journal 510 Unsettled room " ++ decimal room
room_line room R.CellRefused = codes "journal 511 CellRefused room " ++ decimal room

abbrev pub disks_line : OpenFault → List ℕ
disks_line O.NoMemory = codes "memory"
disks_line (O.Journal node fault) = node_line (journals.number_of fault) (journal_name fault) node
disks_line (O.Refused node) = codes "journal 301 Refused node " ++ decimal node
disks_line (O.Room room fault) = room_line room fault

abbrev pub build_line : BuildError → List ℕ
build_line NoMemory = codes "memory"
build_line NoThread = codes "memory"
build_line (Source fault) = source_line fault
build_line (Disks fault) = disks_line fault
build_line (Failed node fault) = failed_line node fault
build_line Undecided = codes "undecided"
build_line (Unlinked fault function) =
    codes "link " ++ (decimal (number_of_link_error fault) ++ (codes " " ++ (link_name fault ++ (codes " in " ++ string_bytes function))))
build_line Names = codes "link 603 Names"

-- what stands behind the line of a journal that is of another build: the end of the line, and why
abbrev pub journal_behind : LogError → List ℕ
journal_behind L.NoMemory = codes ""
journal_behind L.Device = codes ""
journal_behind L.NotAJournal = codes ""
journal_behind L.BadRecord = codes ""
journal_behind L.OtherSource = codes "\nthe journals of that folder are of another text, nodes or quorums: this build needs a folder of its own (--dir)"
journal_behind L.Stopped = codes ""
journal_behind L.Full = codes ""

abbrev pub disks_behind : OpenFault → List ℕ
disks_behind O.NoMemory = codes ""
disks_behind (O.Journal node fault) = journal_behind fault
disks_behind (O.Refused node) = codes ""
disks_behind (O.Room room fault) = codes ""

abbrev pub build_behind : BuildError → List ℕ
build_behind NoMemory = codes ""
build_behind NoThread = codes ""
build_behind (Source fault) = codes ""
build_behind (Disks fault) = disks_behind fault
build_behind (Failed node fault) = codes ""
build_behind Undecided = codes ""
build_behind (Unlinked fault function) = codes ""
build_behind Names = codes ""

-- the line, with what explains it
abbrev pub told_line : BuildError → List ℕ
told_line fault = build_line fault ++ build_behind fault
