-- The disks of a farm: one for each of its nodes, over the files of its folder.
use Rattle.std.specs.Prelude.{ℕ, List, length}
use Rattle.cfarm_build_folder.specs.Changed.{Changed}
use Rattle.cfarm_build_folder.specs.Disks.{AreGiven, HasNoDisk}
use Rattle.cfarm_build_folder.specs.Used.{openings}
use Rattle.cfarm_build_folder.specs.declared.error.BuildingError.{BuildingError}
use Rattle.cfarm_build_folder.specs.declared.paths.JournalPaths.{JournalPaths}
use Rattle.cfarm_files.specs.Using.{Uses}
use Rattle.cfarm_files.specs.declared.files.Files as filing

-- With these files of nodes, over files as a call finds them and as it leaves them.
module _ {F D L : Type 0} (over : filing.Ghosts F D L) (paths : JournalPaths) (files : Changed F) where
  -- these are disks that may be given for the nodes, and each was opened, once and in order
  abbrev pub AreOpened : List D → Type 0
  AreOpened given = AreGiven (over.may_give files.entry.now) paths.folder.now (length paths.nodes.items) given
      × Uses (over.used files.entry.now) (over.used files.exit.now) (openings paths.folder.now given)

  -- a file of the first of them whose files are not all had is refused; the disks of those before it were opened, and then closed
  abbrev pub HasNoDiskAt : BuildingError → Type 0
  HasNoDiskAt fault = HasNoDisk (over.may_give files.entry.now) paths.folder.now (over.used files.entry.now) (over.used files.exit.now)
      (length paths.nodes.items) fault
