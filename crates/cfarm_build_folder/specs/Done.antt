-- What a call has put of a build, by what is known of the files as it finds them and as it leaves them.
use Rattle.std.specs.Prelude.{ℕ, List, Option, String, option_map, string_bytes}
use Rattle.std.specs.Global.{Vec}
use Rattle.cfarm_files.specs.Placing.{Placed}
use Rattle.cfarm_options.specs.declared.options.BuildOptions.{BuildOptions}
use Rattle.cfarm_build_folder.specs.Changed.{Changed}
use Rattle.cfarm_build_folder.specs.Put.{IsPut, IsUnput}
use Rattle.cfarm_build_folder.specs.Putting.{MayPlaceBundle, PlacesBoth, PlacesBundle, PlacesNotBoth}
use Rattle.cfarm_build_folder.specs.declared.error.BuildingError.{BuildingError}

-- the bytes of a bundle, where there is one
abbrev pub bundle_bytes : Option (Vec ℕ) → Option (List ℕ)
bundle_bytes bundle = option_map (λ b. b.items) bundle

module _ {F : Type 0} (placed : F → Option (List Placed)) (files : Changed F) where
  -- the bundle was put in the file of this path, where one is given
  abbrev pub HasPutBundle : (path : Option (List ℕ)) → Option (Vec ℕ) → Type 0
  HasPutBundle path bundle = PlacesBundle path (bundle_bytes bundle) (placed files.entry.now) (placed files.exit.now)

  -- the file of this path was refused: the old one stands there or the bundle, whole
  abbrev pub MayHavePutBundle : (path : Option (List ℕ)) → Option (Vec ℕ) → Type 0
  MayHavePutBundle path bundle = MayPlaceBundle path (bundle_bytes bundle) (placed files.entry.now) (placed files.exit.now)

  -- the bundle, where one is asked for, and then the program were put
  abbrev pub HasPutBoth : BuildOptions → Option (Vec ℕ) → (program : List ℕ) → Type 0
  HasPutBoth options bundle program = PlacesBoth options (bundle_bytes bundle) (placed files.entry.now) (placed files.exit.now) program

  -- a file was refused, at whose path the old one stands or the new one, whole; behind the bundle's nothing was put
  abbrev pub HasNotPutBoth : BuildOptions → Option (Vec ℕ) → (program : List ℕ) → BuildingError → Type 0
  HasNotPutBoth options bundle program fault = PlacesNotBoth options (bundle_bytes bundle) (placed files.entry.now) (placed files.exit.now) program fault

-- Over files and an output as a call finds them and as it leaves them.
module _ {F W Z : Type 0} (placed : F → Option (List Placed)) (contents : W → Option (List ℕ)) (options : BuildOptions) (bundle : Option (Vec ℕ))
    (program : Vec ℕ) (report : String Z) (files : Changed F) (out : Changed W) where
  -- what was built was put in its files, and its report printed
  abbrev pub HasPut : Type 0
  HasPut = IsPut options (bundle_bytes bundle) program.items (string_bytes report) (placed files.entry.now) (placed files.exit.now)
      (contents out.entry.now) (contents out.exit.now)

  -- it could not be put, or its report not be printed, for this
  abbrev pub HasPutNot : BuildingError → Type 0
  HasPutNot fault = IsUnput options (bundle_bytes bundle) program.items (string_bytes report) (placed files.entry.now) (placed files.exit.now)
      (contents out.entry.now) (contents out.exit.now) fault
