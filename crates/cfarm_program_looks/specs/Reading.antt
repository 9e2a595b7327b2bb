-- What `verify` reads of its files.
use Rattle.std.specs.Prelude.{◌≡◌, ℕ, List, Option, Result, Ok, Err}
use Rattle.cfarm_files.specs.Reading.{IsKnownAs}
use Rattle.cfarm_verify.specs.Found.{AreSpelled}
use Rattle.cfarm_files.specs.declared.fault.FileFault.{FileFault}
use Rattle.cfarm_program_looks.specs.declared.verifying.Read.{Read}
use Rattle.cfarm_program_looks.specs.declared.verifying.Read.TheVariants.{NoProgram, NoBundle, Both}

-- behind a program of these bytes, where this is known of the bundle's file
abbrev pub IsReadWith : Option (Result (List ℕ) FileFault) → List ℕ → Read → Type 0
IsReadWith known program (NoProgram fault) = ⊥
IsReadWith known program (NoBundle fault) = IsKnownAs known (Err fault)
IsReadWith known program (Both bytes bundle forms) = (bytes.items ≡ program) × IsKnownAs known (Ok bundle.items) × AreSpelled bytes.items bundle.items forms

-- both files are read as they are known to be
abbrev pub AreRead : Option (Result (List ℕ) FileFault) → Option (Result (List ℕ) FileFault) → Read → Type 0
AreRead program_known known (NoProgram fault) = IsKnownAs program_known (Err fault)
AreRead program_known known (NoBundle fault) = ((program : List ℕ) × IsKnownAs program_known (Ok program)) × IsKnownAs known (Err fault)
AreRead program_known known (Both program bundle forms) =
    IsKnownAs program_known (Ok program.items) × IsKnownAs known (Ok bundle.items) × AreSpelled program.items bundle.items forms
