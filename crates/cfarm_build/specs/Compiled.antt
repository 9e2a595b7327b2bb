-- What is built of a text by a farm over the journals of a folder.
use Rattle.std.specs.Prelude.{◌≡◌, ◌⊎◌, ℕ, List, IfSome}
use Rattle.farm_nodes_source.specs.Refused.{IsUnprepared}
use Rattle.farm_nodes_source.specs.declared.fault.SourceFault.{SourceFault}
use Rattle.farm_nodes_source.specs.declared.source.Source.{Source}
use Rattle.cfarm_build_folder.specs.Prepared.{IsSourceOf}
use Rattle.cfarm_build.specs.Built.{Built, IsBuiltBack}
use Rattle.cfarm_build.specs.declared.farm.Farm as farms
use Rattle.cfarm_build_linking.specs.Carried.{bundle_of}
use Rattle.cfarm_build.specs.Refused.{IsUnbuilt}
use Rattle.cfarm_build_folder.specs.BuildError.TheVariants.{Source as TextFault}
use Rattle.cfarm_build_folder.specs.BuildError.{BuildError}
use Rattle.cfarm_options.specs.Quorums.{quorums_of}
use Rattle.cfarm_options.specs.Sizes.{count_of}
use Rattle.cfarm_files.specs.Locking.{lock_path}
use Rattle.cfarm_files.specs.Placing.{KeepsFolder, Makes}
use Rattle.cfarm_files.specs.Using.{UsesNone}
use Rattle.cfarm_build_folder.specs.Disks.{AreGiven, HasNoDisk, IsOwn, IsRefusedAt}
use Rattle.cfarm_build_folder.specs.Used.{OpensAndCloses}
use Rattle.cfarm_build_folder.specs.declared.error.BuildingError.{BuildingError}
use Rattle.cfarm_build_folder.specs.declared.error.BuildingError.TheVariants.{Build}
use Rattle.cfarm_options.specs.declared.options.BuildOptions.{BuildOptions}
use Rattle.cfarm_build.specs.Carried.{CarriesProof}

-- the text was made ready, and so it is of what it was made
pub record IsBehind (text : List ℕ) (Is : Source → Type 0) : Type 0 where
  pub source : Source
  pub source_is : IsSourceOf text source
  pub so : Is source

-- Over this farm, with its files as they were found and as they were left.
module _ {F H D L : Type 0} (farm : farms.Ghosts F H D L) (options : BuildOptions) (found left : F) where
  -- no disk was opened
  abbrev pub OpensNone : Type 0
  OpensNone = UsesNone (farm.files.used found) (farm.files.used left)

  -- The pairs of the nodes were opened, each once. What was given back of them was closed, each over the files of its node and as it was then,
  -- and nothing else was done with disks: node by node the journal stands there as it was given back.
  pub record IsGivenBack (given back : List D) : Type 0 where
    pub given_are : AreGiven (farm.files.may_give found) options.folder.now (count_of options.nodes) given
    pub closed : OpensAndCloses options.folder.now (farm.files.used found) (farm.files.used left) given back

  -- Over disks of the folder the farm builds this of the source, with the quorums that are asked for, the generators of the seed and as many turns
  -- at most. The disks of its nodes are given back, each with its journal.
  pub record IsBuiltIn (source : Source) (built : Built) : Type 0 where
    pub given : List D
    pub back : List D
    pub built_is : IsBuiltBack farm.disks farm.pairs farm.rooms (quorums_of options) options.seed options.turns source given back built
    pub given_back : IsGivenBack given back

  -- Over such disks it builds nothing, for this. The disks of its nodes are given back, or the pairs where they did not open.
  pub record IsUnbuiltIn (source : Source) (fault : BuildingError) : Type 0 where
    pub given : List D
    pub back : List D
    pub cause : BuildError
    pub told : fault ≡ Build cause
    pub unbuilt_is : IsUnbuilt farm.disks farm.pairs farm.rooms (quorums_of options) options.seed options.turns source given back cause
    pub given_back : IsGivenBack given back

  -- a file of a journal is refused, or memory was: the disks of the nodes before it were opened, and closed as they were
  abbrev pub HasNoJournal : BuildingError → Type 0
  HasNoJournal fault = HasNoDisk (farm.files.may_give found) options.folder.now (farm.files.used found) (farm.files.used left) (count_of options.nodes) fault

  -- the folder's lock is refused, or memory was, and no disk was opened; or a file of a journal is
  abbrev pub IsUnopened : BuildingError → Type 0
  IsUnopened fault = (IsRefusedAt (lock_path options.folder.now) fault × OpensNone) ⊎ HasNoJournal fault

  module _ (text : List ℕ) where
    -- the text is refused, and no disk was opened
    pub record IsTextRefused (fault : BuildingError) : Type 0 where
      pub cause : SourceFault
      pub told : fault ≡ Build (TextFault cause)
      pub unprepared : IsUnprepared text cause
      pub unopened : OpensNone

    -- the text was made ready, and the lock or a journal is refused, or the farm builds nothing
    abbrev pub IsRefusedBehind : BuildingError → Type 0
    IsRefusedBehind fault = IsBehind text (λ source. IsUnopened fault ⊎ IsUnbuiltIn source fault)

    -- The text was made ready, and this is built of that; the bundle, where there is one, carries the proof of it. Of files only the lock's
    -- and journals were made, where they were not there.
    pub record HasCompiled (built : Built) : Type 0 where
      pub source : Source
      pub source_is : IsSourceOf text source
      pub built_in : IsBuiltIn source built
      pub carried : IfSome (bundle_of built) (λ bundle. CarriesProof text built.program.items bundle)
      pub made : Makes (farm.files.placed found) (farm.files.placed left) (IsOwn options.folder.now)

    -- Why nothing is built, in this order: the text, and then no file is made; the folder's lock, a journal, the farm, and then the lock's file and
    -- journals may have been made. Nothing was put.
    abbrev pub HasNotCompiled : BuildingError → Type 0
    HasNotCompiled fault =
        (IsTextRefused fault × KeepsFolder (farm.files.placed found) (farm.files.placed left))
        ⊎ (IsRefusedBehind fault × Makes (farm.files.placed found) (farm.files.placed left) (IsOwn options.folder.now))
