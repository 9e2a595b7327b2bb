-- What opening lists of the files of a folder, and what it refuses.
use Rattle.std.specs.Prelude.{◌≡◌, ◌≢◌, ℕ, List, length}
use Rattle.std.specs.Global.{Vec}
use Rattle.paxos_core_world.specs.Quorum.{Sizes}
use Rattle.acceptor_log_form.specs.declared.record.Record.{Record}
use Rattle.acceptor_log_form.specs.declared.errors.LogError.{LogError}
use Rattle.farm_nodes_open_journals.specs.Journals.{header_of}
use Rattle.farm_nodes_open_seats.specs.Nodes.{AllMade, AreMade, AtNode}
use Rattle.farm_nodes_open_seats.specs.RoomFault.{RoomFault}
use Rattle.farm_nodes_open_seats.specs.declared.fault.OpenFault.{OpenFault}
use Rattle.farm_nodes_open_seats.specs.declared.fault.OpenFault.TheVariants.{Journal, Refused, Room}
use Rattle.cfarm_fsck_journals.specs.declared.files.NodeFiles.{NodeFiles}
use Rattle.cfarm_fsck_journals.specs.Listed.{AreListedIn, AreRefusedIn, HasSize}

-- so it is of the files of node i
pub record IsJournalIn (q : Sizes) (digest : List ℕ) (i : ℕ) (files : NodeFiles) (j : ℕ × Vec Record) : Type 0 where
  pub listed : AreListedIn (header_of q digest i) files.new.items files.old.items j.1.items
  pub size : HasSize files.new.items files.old.items j.1.items j.0

-- these are of the files of all nodes, in their order
abbrev pub AreJournalsIn : Sizes → List ℕ → List NodeFiles → List (ℕ × Vec Record) → Type 0
AreJournalsIn q digest given journals = AreMade (IsJournalIn q digest) given (length given) journals

-- the journal of this node is refused, and those in front of it are listed
pub record IsRefusedFile (q : Sizes) (digest : List ℕ) (given : List NodeFiles) (node : ℕ) (fault : LogError) : Type 0 where
  pub front : AllMade (IsJournalIn q digest) given node
  pub refused : AtNode (λ i files. AreRefusedIn (header_of q digest i) files.new.items files.old.items fault) node given

-- a fault of a journal is one of the node's files
abbrev pub IsOfRefusedFile : Sizes → List ℕ → List NodeFiles → OpenFault → Type 0
IsOfRefusedFile q digest given it = (node : ℕ) (fault : LogError) → it ≡ Journal node fault → IsRefusedFile q digest given node fault

-- it is no fault of what stands in the journals, nor of a room
abbrev pub IsNoOther : OpenFault → Type 0
IsNoOther it = ((node : ℕ) → it ≢ Refused node) × ((room : ℕ) (fault : RoomFault) → it ≢ Room room fault)
