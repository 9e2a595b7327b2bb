-- What a farm does with a text, over its files and with its output as a call finds them and as it leaves them.
use Rattle.std.specs.Prelude.{◌⊎◌, ℕ, List, Option}
use Rattle.farm_nodes_source.specs.declared.source.Source.{Source}
use Rattle.cfarm_build.specs.Built.{Built}
use Rattle.cfarm_build.specs.Compiled.{HasCompiled, HasNotCompiled, IsBuiltIn, IsUnbuiltIn, IsUnopened}
use Rattle.cfarm_build.specs.Done.{HasBuilt, IsNotBuilt}
use Rattle.cfarm_build.specs.declared.farm.Farm as farms
use Rattle.cfarm_build_folder.specs.Changed.{Changed}
use Rattle.cfarm_build_folder.specs.declared.error.BuildingError.{BuildingError}
use Rattle.cfarm_options.specs.declared.options.BuildOptions.{BuildOptions}

module _ {F H D L : Type 0} (farm : farms.Ghosts F H D L) (options : BuildOptions) where
  module _ (source : Source) (files : Changed F) where
    -- it builds this of what was made ready
    abbrev pub FarmMakes : Built → Type 0
    FarmMakes built = IsBuiltIn farm options files.entry.now files.exit.now source built

    -- it builds nothing of that, for this
    abbrev pub FarmMakesNot : BuildingError → Type 0
    FarmMakesNot fault = IsUnopened farm options files.entry.now files.exit.now fault ⊎ IsUnbuiltIn farm options files.entry.now files.exit.now source fault

  module _ (text : List ℕ) (files : Changed F) where
    -- it builds this of the text, and puts nothing
    abbrev pub FarmCompiles : Built → Type 0
    FarmCompiles built = HasCompiled farm options files.entry.now files.exit.now text built

    -- it builds nothing of the text, for this
    abbrev pub FarmCompilesNot : BuildingError → Type 0
    FarmCompilesNot fault = HasNotCompiled farm options files.entry.now files.exit.now text fault

  module _ {W : Type 0} (contents : W → Option (List ℕ)) (text : List ℕ) (files : Changed F) (out : Changed W) where
    -- it builds the text as is asked for, puts what is built in its files, and prints the report
    abbrev pub FarmBuilds : Type 0
    FarmBuilds = HasBuilt farm options text files.entry.now files.exit.now (contents out.entry.now) (contents out.exit.now)

    -- it does not, for this
    abbrev pub FarmBuildsNot : BuildingError → Type 0
    FarmBuildsNot fault = IsNotBuilt farm options text files.entry.now files.exit.now fault (contents out.entry.now) (contents out.exit.now)
