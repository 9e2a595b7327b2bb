-- The disks of the nodes, over the files of a folder.
use Rattle.std.specs.Prelude.{◌≡◌, ◌⊎◌, ◌<◌, ℕ, List, length, Option, Some, slice_get}
use Rattle.std.specs.String.{string_bytes}
use Rattle.cfarm_build_faults.specs.declared.error.BuildError.TheVariants.{NoMemory, NoThread, Source, Disks, Failed, Undecided, Unlinked, Names}
use Rattle.cfarm_build_folder.specs.declared.error.BuildingError.{BuildingError}
use Rattle.cfarm_build_folder.specs.declared.error.BuildingError.TheVariants.{Build, File, Write}
use Rattle.cfarm_build_folder.specs.Used.{OpensAndCloses}
use Rattle.cfarm_files.specs.Locking.{lock_path}
use Rattle.cfarm_files.specs.Using.{DiskUse}
use Rattle.cfarm_options.specs.Paths.{journal_path, old_journal_path}

-- the file of this path is refused, or memory was, which says nothing
abbrev pub IsRefusedAt : List ℕ → BuildingError → Type 0
IsRefusedAt path (Build NoMemory) = Unit {0}
IsRefusedAt path (Build NoThread) = ⊥
IsRefusedAt path (Build (Source fault)) = ⊥
IsRefusedAt path (Build (Disks fault)) = ⊥
IsRefusedAt path (Build (Failed node fault)) = ⊥
IsRefusedAt path (Build Undecided) = ⊥
IsRefusedAt path (Build (Unlinked fault name)) = ⊥
IsRefusedAt path (Build Names) = ⊥
IsRefusedAt path (File told reason) = string_bytes told ≡ path
IsRefusedAt path Write = ⊥

-- the one of two files is refused, or the other, or memory was
abbrev pub IsRefusedAtEither : List ℕ → List ℕ → BuildingError → Type 0
IsRefusedAtEither path other (Build NoMemory) = Unit {0}
IsRefusedAtEither path other (Build NoThread) = ⊥
IsRefusedAtEither path other (Build (Source fault)) = ⊥
IsRefusedAtEither path other (Build (Disks fault)) = ⊥
IsRefusedAtEither path other (Build (Failed node fault)) = ⊥
IsRefusedAtEither path other (Build Undecided) = ⊥
IsRefusedAtEither path other (Build (Unlinked fault name)) = ⊥
IsRefusedAtEither path other (Build Names) = ⊥
IsRefusedAtEither path other (File told reason) = (string_bytes told ≡ path) ⊎ (string_bytes told ≡ other)
IsRefusedAtEither path other Write = ⊥

-- a file of this node is refused
abbrev pub IsRefusedOf : List ℕ → ℕ → BuildingError → Type 0
IsRefusedOf folder node fault = IsRefusedAtEither (journal_path folder node) (old_journal_path folder node) fault

-- this is the path of this node's journal
abbrev pub IsJournalOf : List ℕ → ℕ → List ℕ → Type 0
IsJournalOf folder node path = path ≡ journal_path folder node

-- of some node's
abbrev pub IsJournal : List ℕ → List ℕ → Type 0
IsJournal folder path = (node : ℕ) × IsJournalOf folder node path

-- or that of the lock's file
abbrev pub IsOwn : List ℕ → List ℕ → Type 0
IsOwn folder path = (path ≡ lock_path folder) ⊎ IsJournal folder path

module _ {D : Type 0} (may_give : List ℕ → List ℕ → D → Type 0) (folder : List ℕ) where
  -- the disks may be given for the two files of this node
  abbrev pub IsOfNode : ℕ → D → Type 0
  IsOfNode node = may_give (journal_path folder node) (old_journal_path folder node)

  -- each is one that may be given for the files of its node
  pub record AreSome (given : List D) : Type 0 where
    pub each : (node : ℕ) (disk : D) → slice_get given node ≡ Some disk → IsOfNode node disk

  -- there is one for each of so many nodes
  pub record AreGiven (count : ℕ) (given : List D) : Type 0 where
    pub count_is : length given ≡ count
    pub some : AreSome given

  -- Those of the nodes before this one were given, and one of this one's files is refused. Each that was given was closed as it was.
  pub record HasNoDisk (used now_used : Option (List (DiskUse D))) (count : ℕ) (fault : BuildingError) : Type 0 where
    pub given : List D
    pub some : AreSome given
    pub below : length given < count
    pub refused : IsRefusedOf folder (length given) fault
    pub closed : OpensAndCloses folder used now_used given given
