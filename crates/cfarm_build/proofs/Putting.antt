-- What is put of what was built.
use Rattle.std.proofs.Common.{ℕ, List, Option, Result, Ok, Err, IfErr, inr}
use Rattle.std.specs.Prelude.{OnOk}
use Rattle.cfarm_build.specs.Built.{Built}
use Rattle.cfarm_options.specs.declared.options.BuildOptions.{BuildOptions}
use Rattle.cfarm_build_folder.specs.declared.error.BuildingError.{BuildingError}
use Rattle.cfarm_build.specs.Compiled.{HasCompiled, OpensNone}
use Rattle.cfarm_build.specs.Done.{HasBuilt, IsNotBuilt, IsPutNext, IsUnputNext}
use Rattle.cfarm_build.specs.declared.farm.Farm as farms

module _ {F H D L : Type 0} (farm : farms.Ghosts F H D L) (options : BuildOptions) (text : List ℕ) (found so_far left : F) (before after : Option (List ℕ))
    (built : Built) (compiled : HasCompiled farm options found so_far text built) (no_more : OpensNone farm options so_far left) where
  pub has_built : {T : Type 0} (r : Result T BuildingError) → OnOk r (IsPutNext farm options built so_far left before after)
      → OnOk r (HasBuilt farm options text found left before after)
  has_built (Ok done) put = (built, so_far, record { compiled = compiled; no_more = no_more }, put)
  has_built (Err e) put = tt

  pub has_not_built : {T : Type 0} (r : Result T BuildingError) → IfErr r (IsUnputNext farm options built so_far left before after)
      → IfErr r (λ e. IsNotBuilt farm options text found left e before after)
  has_not_built (Ok done) un = tt
  has_not_built (Err e) un = inr (built, so_far, record { compiled = compiled; no_more = no_more }, un)
