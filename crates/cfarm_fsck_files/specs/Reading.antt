-- What the files of a folder's journals are read as.
use Rattle.std.specs.Prelude.{◌≡◌, ◌⊎◌, ◌<◌, ℕ, List, [], length, Some, Ok, slice_get}
use Rattle.std.specs.String.{string_bytes}
use Rattle.cfarm_files.specs.Reading.{IsKnownAs, IsNotThere, IsRefusedThere}
use Rattle.cfarm_files.specs.declared.files.Files as filing
use Rattle.cfarm_fsck_journals.specs.declared.files.NodeFiles.{NodeFiles}
use Rattle.cfarm_options.specs.Paths.{journal_path, old_journal_path}
use Rattle.cfarm_fsck_files.specs.declared.unread.Unread.{Unread}
use Rattle.cfarm_fsck_files.specs.declared.unread.Unread.TheVariants.{NoMemory, File}

-- by whoever has this lock, of which it may be known what each file is read as, and whether it is there
module _ {F D L : Type 0} (over : filing.Ghosts F D L) (lock : L) where
  -- these are the bytes of the file of this path; or none is there, and they are none
  abbrev pub IsReadAs : List ℕ → List ℕ → Type 0
  IsReadAs path bytes = IsKnownAs (over.held lock path) (Ok bytes) ⊎ (IsNotThere (over.held lock path) (over.held_there lock path) × (bytes ≡ []))

  -- the file of this path is there and is refused; that memory was says nothing
  abbrev pub IsUnreadAt : List ℕ → Unread → Type 0
  IsUnreadAt path NoMemory = Unit {0}
  IsUnreadAt path (File told reason) = (string_bytes told ≡ path) × IsRefusedThere (over.held lock path) (over.held_there lock path) reason

  module _ (folder : List ℕ) where
    -- so it is of both files of this node
    pub record AreOfNode (node : ℕ) (found : NodeFiles) : Type 0 where
      pub old : IsReadAs (old_journal_path folder node) found.old.items
      pub new : IsReadAs (journal_path folder node) found.new.items

    -- the old one is refused; or it is read, and the new one is refused
    abbrev pub IsUnreadNode : ℕ → Unread → Type 0
    IsUnreadNode node fault =
        IsUnreadAt (old_journal_path folder node) fault
        ⊎ ((bytes : List ℕ) × IsReadAs (old_journal_path folder node) bytes × IsUnreadAt (journal_path folder node) fault)

    -- each is of the files of its node
    pub record AreSome (found : List NodeFiles) : Type 0 where
      pub each : (node : ℕ) (one : NodeFiles) → slice_get found node ≡ Some one → AreOfNode node one

    -- there is one for each of so many nodes
    pub record AreRead (count : ℕ) (found : List NodeFiles) : Type 0 where
      pub count_is : length found ≡ count
      pub some : AreSome found

    -- those of the nodes before this one are read, and one of this one's files is refused
    pub record HasUnread (count : ℕ) (fault : Unread) : Type 0 where
      pub found : List NodeFiles
      pub some : AreSome found
      pub below : length found < count
      pub refused : IsUnreadNode (length found) fault
