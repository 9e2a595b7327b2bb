-- What `build` comes to: what it put and wrote, and what it answers.
use Rattle.std.specs.Prelude.{◌≡◌, ◌⊎◌, List, Option, ℕ}
use Rattle.cfarm_files.specs.Placing.{KeepsFolder}
use Rattle.cfarm_files.specs.Using.{UsesNone}
use Rattle.cfarm_files.specs.declared.fault.FileFault.TheVariants.{Refused}
use Rattle.cfarm_files.specs.declared.reason.Reason.TheVariants.{Unsaid}
use Rattle.cfarm_build.specs.Answers as building
use Rattle.cfarm_build.specs.BuildingError.{BuildingError}
use Rattle.cfarm_build.specs.Done.{HasBuilt, IsNotBuilt}
use Rattle.cfarm_build.specs.declared.farm.Farm as farms
use Rattle.cfarm_options.specs.declared.options.BuildOptions.{BuildOptions}
use Rattle.cfarm_own_files.specs.Barred.{AreAllFree, IsBarred}
use Rattle.cfarm_program_status.specs.Reading.{Coming, unread}
use Rattle.cfarm_program_status.specs.Telling.{Answer, no_memory, quiet, told}
use Rattle.cfarm_program_status.specs.Trace.{Changed}

abbrev pub building_fault : BuildingError → Answer
building_fault fault = told (building.status_of fault) (building.building_line fault)

-- Over this farm, with the files as they were found and as they are left.
module _ {F H D L : Type 0} (farm : farms.Ghosts F H D L) (files : Changed F) (options : BuildOptions) where
  -- What a farm links of the text is put in its file and the report printed, or why not is told. Each node's disk was opened once, and closed
  -- with its journal; where no nodes came to be each pair that was opened was closed as it was then.
  abbrev pub BuildsApart : (bytes : List ℕ) → Coming
  BuildsApart bytes answer before after =
      (HasBuilt farm options bytes files.entry.now files.exit.now before after × (answer ≡ quiet))
      ⊎ ((fault : BuildingError) × IsNotBuilt farm options bytes files.entry.now files.exit.now fault before after × (answer ≡ building_fault fault))

  -- nothing is made, put or printed, and no disk opened
  abbrev pub LeavesAll : (before after : Option (List ℕ)) → Type 0
  LeavesAll before after = KeepsFolder (farm.files.placed files.entry.now) (farm.files.placed files.exit.now)
      × UsesNone (farm.files.used files.entry.now) (farm.files.used files.exit.now) × (after ≡ before)

  -- a path that the build is given may not be used, which is told of it; or there was no memory to find out
  abbrev pub TellsBarred : (path : List ℕ) → Answer → Type 0
  TellsBarred path answer =
      ((at : List ℕ) × IsBarred farm.files files.entry.now options path at × (answer ≡ unread at (Refused Unsaid))) ⊎ (answer ≡ no_memory)

  -- `build`: one of its paths may not be used, and then nothing is made, put, printed or opened; else the build is done
  abbrev pub Builds : (path bytes : List ℕ) → Coming
  Builds path bytes answer before after =
      (TellsBarred path answer × LeavesAll before after)
      ⊎ (AreAllFree farm.files files.entry.now options path × BuildsApart bytes answer before after)
