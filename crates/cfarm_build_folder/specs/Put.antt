-- What comes of what was built: it is put in its files, and then its report is printed.
use Rattle.std.specs.Prelude.{◌≡◌, ℕ, List, [], ◌∷◌, ◌++◌, Option}
use Rattle.std.specs.Io.KnownBytes.{Appends}
use Rattle.cfarm_files.specs.Placing.{Placed}
use Rattle.cfarm_options.specs.declared.options.BuildOptions.{BuildOptions}
use Rattle.cfarm_output.specs.Begun.{IsBegun}
use Rattle.cfarm_build_folder.specs.Putting.{PlacesBoth, PlacesNotBoth}
use Rattle.cfarm_build_folder.specs.declared.error.BuildingError.{BuildingError}
use Rattle.cfarm_build_folder.specs.declared.error.BuildingError.TheVariants.{Build, File, Write}

-- the report, on a line
abbrev pub report_line : List ℕ → List ℕ
report_line report = report ++ 10 ∷ []

module _ (options : BuildOptions) (bundle : Option (List ℕ)) (program report : List ℕ) (placed now_placed : Option (List Placed))
    (before after : Option (List ℕ)) where
  -- the bundle, where one is asked for, and then the program were put in their files, and the report was printed
  abbrev pub IsPut : Type 0
  IsPut = PlacesBoth options bundle placed now_placed program × Appends before after (report_line report)

  -- a file was refused, at whose path the old one stands or the new one, whole; nothing was printed
  abbrev pub HasNoFile : BuildingError → Type 0
  HasNoFile fault = PlacesNotBoth options bundle placed now_placed program fault × (after ≡ before)

  -- In this order: the files, the output, of which a beginning may have been printed.
  abbrev pub IsUnput : BuildingError → Type 0
  IsUnput (Build fault) = HasNoFile (Build fault)
  IsUnput (File path reason) = HasNoFile (File path reason)
  IsUnput Write = PlacesBoth options bundle placed now_placed program × IsBegun (report_line report) before after
