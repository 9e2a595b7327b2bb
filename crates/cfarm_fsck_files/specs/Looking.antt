-- What `fsck` comes to, on the bytes of its text: what it made and wrote, and what it answers.
use Rattle.std.specs.Prelude.{◌≡◌, ◌⊎◌, ℕ, List, [], ◌∷◌}
use Rattle.std.specs.Arc.{arc_value}
use Rattle.std.specs.String.{string_bytes}
use Rattle.paxos_core_world.specs.Quorum.{Sizes}
use Rattle.farm_nodes_source.specs.Refused.{IsUnprepared}
use Rattle.farm_nodes_source.specs.declared.fault.SourceFault.{SourceFault}
use Rattle.farm_nodes_source.specs.declared.source.Source.{Source}
use Rattle.cfarm_build_faults.specs.Lines.{told_line}
use Rattle.cfarm_build_faults.specs.Prepared.{IsSourceOf}
use Rattle.cfarm_build_faults.specs.Statuses.{status_of}
use Rattle.cfarm_build_faults.specs.declared.error.BuildError.{BuildError}
use Rattle.cfarm_build_faults.specs.declared.error.BuildError.TheVariants as build
use Rattle.cfarm_files.specs.Locking.{CoversFolder, lock_path}
use Rattle.cfarm_files.specs.Placing.{KeepsFolder, Makes}
use Rattle.cfarm_files.specs.Using.{UsesNone}
use Rattle.cfarm_files.specs.declared.fault.FileFault.{FileFault}
use Rattle.cfarm_files.specs.declared.files.Files as filing
use Rattle.cfarm_files.specs.declared.fault.FileFault.TheVariants as file
use Rattle.cfarm_fsck.specs.Told as fsck
use Rattle.cfarm_fsck.specs.declared.error.FsckError.{FsckError}
use Rattle.cfarm_fsck.specs.declared.error.FsckError.TheVariants.{Disks, Unchained, NoMemory, Write}
use Rattle.cfarm_fsck_journals.specs.declared.files.NodeFiles.{NodeFiles}
use Rattle.cfarm_program_status.specs.Reading.{Coming, unread}
use Rattle.cfarm_output.specs.Errors.{ErrorsHeld}
use Rattle.cfarm_program_status.specs.Telling.{Answer, IsToldAs, no_memory, quiet, told, unwritten}
use Rattle.cfarm_fsck_files.specs.Lost.{lost_lines}
use Rattle.cfarm_fsck_files.specs.Reading.{AreRead, HasUnread}
use Rattle.cfarm_fsck_files.specs.Unlinked.{IsUnchainedTold}
use Rattle.cfarm_fsck_files.specs.declared.unread.Unread.{Unread}
use Rattle.cfarm_fsck_files.specs.declared.unread.Unread.TheVariants as unread_by

-- what `build` answers where it is refused so
abbrev pub build_fault : BuildError → Answer
build_fault fault = told (status_of fault) (told_line fault)

-- A folder is refused as `build` would refuse it, and so is a function whose chosen offers are never linked, behind these lines.
abbrev pub IsFsckFault : Source → (lines : List ℕ) → FsckError → Answer → Type 0
IsFsckFault source lines (Disks fault) answer = answer ≡ build_fault (build.Disks fault)
IsFsckFault source lines (Unchained function) answer = IsUnchainedTold source lines function answer
IsFsckFault source lines NoMemory answer = answer ≡ no_memory
IsFsckFault source lines Write answer = answer ≡ unwritten

abbrev pub unread_fault : Unread → Answer
unread_fault unread_by.NoMemory = no_memory
unread_fault (unread_by.File path reason) = unread (string_bytes path) (file.Refused reason)

-- so it is said on standard error
abbrev pub IsSaidOfFault : Source → (lines : List ℕ) → FsckError → (status : ℕ) → ErrorsHeld → ErrorsHeld → Type 0
IsSaidOfFault source lines fault status before after =
    (answer : Answer) × IsFsckFault source lines fault answer × IsToldAs answer status before after

-- these lines are told, where there are some, and nothing is wrong
abbrev pub with_lines : List ℕ → Answer
with_lines [] = quiet
with_lines (c ∷ text) = told 0 (c ∷ text)

-- what stands in these files is told, with the nodes that have no journal where others have records; or why not
abbrev pub Found : Sizes → Source → List NodeFiles → Coming
Found q source files answer before after =
    (fsck.IsTold q source.digest (arc_value source.translated) files before after
    × (answer ≡ with_lines (lost_lines files)))
    ⊎ ((fault : FsckError) × fsck.IsNotTold q source.digest (arc_value source.translated) files fault before after
    × IsFsckFault source (lost_lines files) fault answer)

module _ {F D L : Type 0} (over : filing.Ghosts F D L) (folder : List ℕ) (q : Sizes) where
  -- the files are read as this lock holds them, and so it comes; or the first that is refused is told, and then nothing is printed
  abbrev pub OfFiles : L → Source → Coming
  OfFiles lock source answer before after =
      ((found : List NodeFiles) × AreRead over lock folder q.nodes found × Found q source found answer before after)
      ⊎ ((fault : Unread) × HasUnread over lock folder q.nodes fault × (after ≡ before) × (answer ≡ unread_fault fault))

  -- a lock of the folder is had, and so it comes under it; or its file is told, and then no other is read and nothing is printed
  abbrev pub OfLocked : Source → Coming
  OfLocked source answer before after =
      ((lock : L) × CoversFolder (over.covers lock) folder × OfFiles lock source answer before after)
      ⊎ ((fault : FileFault) × (after ≡ before) × (answer ≡ unread (lock_path folder) fault))

-- Over files as they were given and as they are left. No disk is opened. A text that is refused is told as `build` tells it: nothing is made,
-- and nothing printed. Else the lock's file alone may be made, and nothing is put.
abbrev pub Looked : {F D L : Type 0} → filing.Ghosts F D L → (given left : F) → (folder : List ℕ) → Sizes → (text : List ℕ) → Coming
Looked over given left folder q text answer before after =
    UsesNone (over.used given) (over.used left)
    × (((fault : SourceFault) × IsUnprepared text fault × KeepsFolder (over.placed given) (over.placed left) × (after ≡ before) × (answer ≡ build_fault (build.Source fault)))
    ⊎ ((source : Source) × IsSourceOf text source × Makes (over.placed given) (over.placed left) (λ path. path ≡ lock_path folder)
    × OfLocked over folder q source answer before after))
