-- What is put before a file or the output is refused.
use Rattle.std.proofs.Common.{◌≡◌, ℕ, List, Option, None, Some, inl, inr, refl, sym, subst}
use Rattle.cfarm_build_faults.specs.declared.error.BuildError.TheVariants.{NoMemory}
use Rattle.cfarm_files.specs.Placing.{Placed}
use Rattle.cfarm_options.specs.declared.options.BuildOptions.{BuildOptions}
use Rattle.cfarm_build_folder.specs.Put.{IsUnput}
use Rattle.cfarm_build_folder.specs.Putting.{bundle_path, IsUnbundled, MayPlaceBundle, PlacesBundle, PlacesNotBoth}
use Rattle.cfarm_build_folder.specs.declared.error.BuildingError.{BuildingError}
use Rattle.cfarm_build_folder.specs.declared.error.BuildingError.TheVariants.{Build, File, Write}
use Rattle.cfarm_build_folder.proofs.Making.{keeps_same}

module _ (options : BuildOptions) (program : List ℕ) where
  -- before anything is put
  none_bundled : (bundle : Option (List ℕ)) (placed : Option (List Placed)) (path : List ℕ) → MayPlaceBundle (Some path) bundle placed placed
  none_bundled None placed path = keeps_same placed
  none_bundled (Some bytes) placed path = inl (keeps_same placed)

  nothing_put : (bundle : Option (List ℕ)) (placed : Option (List Placed)) (path : Option (List ℕ)) → bundle_path options ≡ path
      → PlacesNotBoth options bundle placed placed program (Build NoMemory)
  nothing_put bundle placed None is = inr (record {
    between = placed;
    bundled = subst (λ p. PlacesBundle p bundle placed placed) (sym is) (keeps_same placed);
    refused = tt;
    whole = inl (keeps_same placed);
  })
  nothing_put bundle placed (Some path) is = inl (record {
    refused = subst (λ p. IsUnbundled p (Build NoMemory)) (sym is) tt;
    whole = subst (λ p. MayPlaceBundle p bundle placed placed) (sym is) (none_bundled bundle placed path);
  })

  -- the output is not refused before it is written to
  never_write : (path : Option (List ℕ)) → IsUnbundled path Write → ⊥
  never_write None is = is
  never_write (Some path) is = is

  write_last : (bundle : Option (List ℕ)) (placed now_placed : Option (List Placed)) → PlacesNotBoth options bundle placed now_placed program Write → ⊥
  write_last bundle placed now_placed (inl none) = never_write (bundle_path options) none.refused
  write_last bundle placed now_placed (inr alone) = alone.refused

module _ (options : BuildOptions) (bundle : Option (List ℕ)) (program report : List ℕ) where
  module _ (placed now_placed : Option (List Placed)) (before after : Option (List ℕ)) (same : after ≡ before) where
    -- a file is refused
    pub stopped : (e : BuildingError) → PlacesNotBoth options bundle placed now_placed program e
        → IsUnput options bundle program report placed now_placed before after e
    stopped (Build f) none = (none, same)
    stopped (File path reason) none = (none, same)
    stopped Write none = absurd (write_last options program bundle placed now_placed none)

  -- no memory for the line
  pub no_line : (placed : Option (List Placed)) (out : Option (List ℕ)) → IsUnput options bundle program report placed placed out out (Build NoMemory)
  no_line placed out = (nothing_put options program bundle placed (bundle_path options) refl, refl)
