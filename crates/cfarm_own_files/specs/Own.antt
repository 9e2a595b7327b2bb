-- Whether a path leads to one of the files that a build has in its folder, by what is known of which paths lead to one file.
use Rattle.std.specs.Prelude.{◌⊎◌, ◌<◌, ℕ, List, ◌++◌, true, false, codes}
use Rattle.cfarm_files.specs.Locking.{lock_path}
use Rattle.cfarm_files.specs.Reading.{IsKnownSo}
use Rattle.cfarm_files.specs.declared.files.Files as filing
use Rattle.cfarm_options.specs.Paths.{journal_path, linked_path, old_journal_path}

-- of what is written beside the file of a path before it gets its name
abbrev pub beside : List ℕ → List ℕ
beside path = path ++ codes ".new"

module _ {F D L : Type 0} (over : filing.Ghosts F D L) (files : F) where
  -- both lead to one file, unless it is known that they do not
  abbrev pub MayBeOne : List ℕ → List ℕ → Type 0
  MayBeOne path other = IsKnownSo (over.same files path other) true

  -- they do not, unless it is known that they do
  abbrev pub MayBeTwo : List ℕ → List ℕ → Type 0
  MayBeTwo path other = IsKnownSo (over.same files path other) false

  module _ (folder path : List ℕ) where
    -- it leads to a journal of this node, of whatever form
    abbrev pub IsOfNode : ℕ → Type 0
    IsOfNode node = MayBeOne path (journal_path folder node) ⊎ MayBeOne path (old_journal_path folder node)

    -- to neither of the two
    abbrev pub IsNotOfNode : ℕ → Type 0
    IsNotOfNode node = MayBeTwo path (journal_path folder node) × MayBeTwo path (old_journal_path folder node)

    -- to a journal of one of the seven nodes that a farm can have
    abbrev pub IsJournal : Type 0
    IsJournal = (node : ℕ) × (node < 7) × IsOfNode node

    -- to those of none of the nodes below this one
    abbrev pub IsNoJournalBelow : ℕ → Type 0
    IsNoJournalBelow count = (node : ℕ) → node < count → IsNotOfNode node

    -- to the lock's file, the program's, or the one that is written beside that
    abbrev pub IsProgram : Type 0
    IsProgram = MayBeOne path (lock_path folder) ⊎ MayBeOne path (linked_path folder) ⊎ MayBeOne path (beside (linked_path folder))

    -- to none of the three
    pub record IsNoProgram : Type 0 where
      pub lock : MayBeTwo path (lock_path folder)
      pub linked : MayBeTwo path (linked_path folder)
      pub beside_it : MayBeTwo path (beside (linked_path folder))

    -- to a file of the build's
    abbrev pub IsOwn : Type 0
    IsOwn = IsProgram ⊎ IsJournal

    -- to none
    pub record IsNoOwn : Type 0 where
      pub program : IsNoProgram
      pub journals : IsNoJournalBelow 7
