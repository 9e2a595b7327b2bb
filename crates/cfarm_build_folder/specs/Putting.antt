-- What a build puts: the bundle, where one is asked for, and then the program in the folder.
use Rattle.std.specs.Prelude.{◌⊎◌, ℕ, List, Option, None, Some, option_copied}
use Rattle.cfarm_files.specs.Placing.{Placed, KeepsFolder, MayPlace, Places}
use Rattle.cfarm_options.specs.Paths.{linked_path}
use Rattle.cfarm_options.specs.declared.options.BuildOptions.{BuildOptions}
use Rattle.cfarm_build_folder.specs.Disks.{IsRefusedAt}
use Rattle.cfarm_build_folder.specs.declared.error.BuildingError.{BuildingError}

-- the bundle's bytes were put in the file of this path, and nothing where none is given
abbrev pub PlacesBundle : (path bundle : Option (List ℕ)) → (placed now_placed : Option (List Placed)) → Type 0
PlacesBundle None bundle placed now_placed = KeepsFolder placed now_placed
PlacesBundle (Some path) None placed now_placed = ⊥
PlacesBundle (Some path) (Some bytes) placed now_placed = Places placed now_placed path bytes

-- at this path the old file stands or one with the bundle's bytes, each whole, and nothing was put where none is given
abbrev pub MayPlaceBundle : (path bundle : Option (List ℕ)) → (placed now_placed : Option (List Placed)) → Type 0
MayPlaceBundle None bundle placed now_placed = KeepsFolder placed now_placed
MayPlaceBundle (Some path) None placed now_placed = KeepsFolder placed now_placed
MayPlaceBundle (Some path) (Some bytes) placed now_placed = MayPlace placed now_placed path bytes

-- the file of this path is refused
abbrev pub IsUnbundled : Option (List ℕ) → BuildingError → Type 0
IsUnbundled None fault = ⊥
IsUnbundled (Some path) fault = IsRefusedAt path fault

-- the path that is given for the bundle
abbrev pub bundle_path : BuildOptions → Option (List ℕ)
bundle_path options = option_copied options.bundle

module _ (options : BuildOptions) (bundle : Option (List ℕ)) (placed now_placed : Option (List Placed)) where
  -- both were put, the bundle first
  pub record PlacesBoth (program : List ℕ) : Type 0 where
    pub between : Option (List Placed)
    pub bundled : PlacesBundle (bundle_path options) bundle placed between
    pub put : Places between now_placed (linked_path options.folder.now) program

  -- the bundle's file was refused: the old one stands there or the new one, whole, and nothing else was put
  pub record HasNoBundle (fault : BuildingError) : Type 0 where
    pub refused : IsUnbundled (bundle_path options) fault
    pub whole : MayPlaceBundle (bundle_path options) bundle placed now_placed

  -- the bundle was put, and the program's file refused: the old one stands there or the new one, whole
  pub record HasNoProgram (program : List ℕ) (fault : BuildingError) : Type 0 where
    pub between : Option (List Placed)
    pub bundled : PlacesBundle (bundle_path options) bundle placed between
    pub refused : IsRefusedAt (linked_path options.folder.now) fault
    pub whole : MayPlace between now_placed (linked_path options.folder.now) program

  -- one or the other, in this order
  abbrev pub PlacesNotBoth : (program : List ℕ) → BuildingError → Type 0
  PlacesNotBoth program fault = HasNoBundle fault ⊎ HasNoProgram program fault
