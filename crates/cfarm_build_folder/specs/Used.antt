-- What is done with the disks of nodes, over the files of a folder.
use Rattle.std.specs.Prelude.{ℕ, ◌+◌, List, [], ◌∷◌, ◌++◌, Option, Result}
use Rattle.cfarm_build_folder.specs.Changed.{Changed}
use Rattle.cfarm_files.specs.Using.{DiskUse, Opened, Closed, Closes, Opens, Uses}
use Rattle.cfarm_files.specs.declared.files.Files as filing
use Rattle.cfarm_options.specs.Paths.{journal_path, old_journal_path}

module _ {D : Type 0} where
  -- one use of each of these disks, in order, over the files of its node; the first is that of this node
  abbrev pub uses_from : (List ℕ → List ℕ → D → DiskUse D) → (folder : List ℕ) → (node : ℕ) → List D → List (DiskUse D)
  uses_from act folder node [] = []
  uses_from act folder node (disk ∷ disks) = act (journal_path folder node) (old_journal_path folder node) disk ∷ uses_from act folder (node + 1) disks

  -- the pair of each node is opened, once
  abbrev pub openings : (folder : List ℕ) → List D → List (DiskUse D)
  openings folder disks = uses_from Opened folder 0 disks

  -- that of each node is closed
  abbrev pub closings : (folder : List ℕ) → List D → List (DiskUse D)
  closings folder disks = uses_from Closed folder 0 disks

  -- The pairs of the nodes were opened, each once and in order, and behind that they were closed, in the same order, as they are in this other
  -- list. Nothing else was done with disks.
  abbrev pub OpensAndCloses : (folder : List ℕ) → (used now_used : Option (List (DiskUse D))) → (opened closed : List D) → Type 0
  OpensAndCloses folder used now_used opened closed = Uses used now_used (openings folder opened ++ closings folder closed)

-- Over files as a call finds them and as it leaves them.
module _ {F D L : Type 0} (over : filing.Ghosts F D L) (folder : List ℕ) (files : Changed F) where
  -- these disks were closed, each over its node's files
  abbrev pub ClosesAll : List D → Type 0
  ClosesAll disks = Uses (over.used files.entry.now) (over.used files.exit.now) (closings folder disks)

  -- the pair that is given was opened over this node's files, and none where none is
  abbrev pub OpensNode : {E : Type 0} → ℕ → Result D E → Type 0
  OpensNode node result = Opens (over.used files.entry.now) (over.used files.exit.now) (journal_path folder node) (old_journal_path folder node) result

  -- the pair of this node was closed
  abbrev pub ClosesNode : ℕ → D → Type 0
  ClosesNode node disk = Closes (over.used files.entry.now) (over.used files.exit.now) (journal_path folder node) (old_journal_path folder node) disk
