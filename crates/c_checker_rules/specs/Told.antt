-- Lists of faults, in the order of the text, and what a refusal says of one.
use Rattle.std.specs.Prelude.{◌≡◌, ◌≢◌, List, [], ◌∷◌, Option, Some, None, Bool, true, false}
use Rattle.c_checker_rules.specs.declared.errors.CheckError.{CheckError}
use Rattle.c_checker_rules.specs.declared.errors.CheckError.TheVariants.{NoMemory}

-- a condition that does not hold is a fault
abbrev pub unless : Bool → CheckError → List CheckError
unless true fault = []
unless false fault = fault ∷ []

abbrev pub first : List CheckError → Option CheckError
first [] = None
first (fault ∷ faults) = Some fault

-- What is refused has these faults, and the first of them is told. Being out of memory says nothing.
abbrev pub Tells : CheckError → List CheckError → Type 0
Tells e faults = e ≢ NoMemory → first faults ≡ Some e
