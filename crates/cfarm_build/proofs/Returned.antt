-- The disks that are given back of a build.
use Rattle.std.proofs.Common.{◌≡◌, ℕ, List, [], inl, inr, subst, subst₂}
use Rattle.std.specs.Prelude.{◌⊎◌}
use Rattle.farm_nodes_source.specs.declared.source.Source.{Source}
use Rattle.cfarm_files.specs.Placing.{GivesNoMore}
use Rattle.cfarm_files.specs.Using.{Uses, UsesNone}
use Rattle.cfarm_files.proofs.Uses.{none_uses, uses_through}
use Rattle.cfarm_options.specs.Sizes.{count_of}
use Rattle.cfarm_options.specs.declared.options.BuildOptions.{BuildOptions}
use Rattle.cfarm_build_folder.specs.Disks.{AreGiven}
use Rattle.cfarm_build_folder.specs.Used.{OpensAndCloses, closings, openings}
use Rattle.cfarm_build_folder.specs.declared.error.BuildingError.{BuildingError}
use Rattle.cfarm_build_folder.proofs.Given.{given_before, refused_before}
use Rattle.cfarm_build.specs.Built.{Built}
use Rattle.cfarm_build.specs.Compiled.{IsBuiltIn, IsGivenBack, IsUnbuiltIn, IsUnopened}
use Rattle.cfarm_build.specs.declared.farm.Farm as farms

module _ {F H D L : Type 0} (farm : farms.Ghosts F H D L) (options : BuildOptions) where
  -- over the files of these nodes, which are those of the folder
  module _ (found mid left : F) (folder : List ℕ) (count : ℕ) (in_folder : folder ≡ options.folder.now) (count_is : count ≡ count_of options.nodes) where
    -- the pairs were opened, and what was given back of them was closed
    pub given_back : (given back : List D) → AreGiven (farm.files.may_give found) folder count given
        → Uses (farm.files.used found) (farm.files.used mid) (openings folder given)
        → Uses (farm.files.used mid) (farm.files.used left) (closings folder back) → IsGivenBack farm options found left given back
    given_back given back are opened closed = record {
      given_are = subst₂ (λ f n. AreGiven (farm.files.may_give found) f n given) in_folder count_is are;
      closed = subst (λ f. OpensAndCloses f (farm.files.used found) (farm.files.used left) given back) in_folder
          (uses_through (farm.files.used found) (farm.files.used mid) (farm.files.used left) (openings folder given) (closings folder back) opened closed);
    }

  -- files that give no more than before, and of which no disk was used meanwhile
  module _ (found mid left : F) (no_more : GivesNoMore (farm.files.may_give found) (farm.files.may_give mid)) (unused : UsesNone (farm.files.used found) (farm.files.used mid)) where
    back_before : (given back : List D) → IsGivenBack farm options mid left given back → IsGivenBack farm options found left given back
    back_before given back is = record {
      given_are = given_before (farm.files.may_give found) (farm.files.may_give mid) no_more options.folder.now (count_of options.nodes) given is.given_are;
      closed = none_uses (farm.files.used found) (farm.files.used mid) (farm.files.used left) _ unused is.closed;
    }

    pub built_before : (source : Source) (built : Built) → IsBuiltIn farm options mid left source built → IsBuiltIn farm options found left source built
    built_before source built is = record { given = is.given; back = is.back; built_is = is.built_is; given_back = back_before is.given is.back is.given_back }

    pub not_before : (source : Source) (fault : BuildingError) → IsUnopened farm options mid left fault ⊎ IsUnbuiltIn farm options mid left source fault
        → IsUnopened farm options found left fault ⊎ IsUnbuiltIn farm options found left source fault
    not_before source fault (inl (inl lock)) =
        inl (inl (lock.0, none_uses (farm.files.used found) (farm.files.used mid) (farm.files.used left) [] unused lock.1))
    not_before source fault (inl (inr lacks)) =
        inl (inr (refused_before (farm.files.may_give found) (farm.files.may_give mid) no_more options.folder.now
        (farm.files.used found) (farm.files.used mid) (farm.files.used left) unused (count_of options.nodes) fault lacks))
    not_before source fault (inr is) = inr (record {
      given = is.given;
      back = is.back;
      cause = is.cause;
      told = is.told;
      unbuilt_is = is.unbuilt_is;
      given_back = back_before is.given is.back is.given_back;
    })
