-- What a build does, in two steps: it builds, and then it puts what it has built.
use Rattle.std.specs.Prelude.{◌≡◌, ◌⊎◌, ℕ, List, Option}
use Rattle.std.specs.String.{string_bytes}
use Rattle.cfarm_build.specs.Built.{Built}
use Rattle.cfarm_build.specs.declared.farm.Farm as farms
use Rattle.cfarm_build.specs.Compiled.{HasCompiled, HasNotCompiled, OpensNone}
use Rattle.cfarm_build_folder.specs.Put.{IsPut, IsUnput}
use Rattle.cfarm_build_linking.specs.Carried.{bundle_of}
use Rattle.cfarm_build_folder.specs.declared.error.BuildingError.{BuildingError}
use Rattle.cfarm_options.specs.declared.options.BuildOptions.{BuildOptions}

module _ {F H D L : Type 0} (farm : farms.Ghosts F H D L) (options : BuildOptions) (built : Built) (so_far left : F) (before after : Option (List ℕ)) where
  -- what was built was put in its files, behind those so far, and its report printed
  abbrev pub IsPutNext : Type 0
  IsPutNext = IsPut options (bundle_of built) built.program.items (string_bytes built.report) (farm.files.placed so_far) (farm.files.placed left) before after

  -- it could not be put, or its report not be printed, for this
  abbrev pub IsUnputNext : BuildingError → Type 0
  IsUnputNext fault =
      IsUnput options (bundle_of built) built.program.items (string_bytes built.report) (farm.files.placed so_far) (farm.files.placed left) before after fault

-- Over this farm, with its files as they were found and as they are left.
module _ {F H D L : Type 0} (farm : farms.Ghosts F H D L) (options : BuildOptions) (text : List ℕ) (found left : F) where
  -- This was built of the text, with the files so far, and behind it no disk was opened or closed.
  pub record HasBuiltFirst (so_far : F) (built : Built) : Type 0 where
    pub compiled : HasCompiled farm options found so_far text built
    pub no_more : OpensNone farm options so_far left

  -- This was built of the text, and then it was put and its report printed. Each node's disk was closed before, with its journal.
  abbrev pub HasBuilt : (before after : Option (List ℕ)) → Type 0
  HasBuilt before after = (built : Built) × (so_far : F) × HasBuiltFirst so_far built
      × IsPutNext farm options built so_far left before after

  -- Nothing was built, put or printed; or this was built, and could not be put or its report not be printed. Each disk that was opened was
  -- closed.
  abbrev pub IsNotBuilt : BuildingError → (before after : Option (List ℕ)) → Type 0
  IsNotBuilt fault before after =
      (HasNotCompiled farm options found left text fault × (after ≡ before))
      ⊎ ((built : Built) × (so_far : F) × HasBuiltFirst so_far built
      × IsUnputNext farm options built so_far left before after fault)
