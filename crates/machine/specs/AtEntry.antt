-- What a called function begins with.
use Rattle.std.specs.Prelude.{◌≡◌, ◌≢◌, ℕ, List, Option, None, Some, slice_get}
use Rattle.std.specs.List.{AllByRecursion}
use Rattle.locations.specs.declared.location.Location.{Location}
use Rattle.locations.specs.Fits.{LocationFits, AreDistinct}
use Rattle.machine.specs.Calls.{Callee, entered}
use Rattle.machine.specs.Data.{Data, value_at}

-- each parameter has the argument of its place in the list
abbrev pub ParametersAreSet : Type 0
ParametersAreSet = (callee : Callee) (values : List (Option ℕ)) (d : Data) (k : ℕ) (l : Location) (v : Option ℕ) → AreDistinct callee.parameters → AllByRecursion (LocationFits callee.slots) callee.parameters → slice_get callee.parameters k ≡ Some l → slice_get values k ≡ Some v → value_at l (entered callee values d) ≡ v

-- no other location has a word
abbrev pub NoOtherIsDefined : Type 0
NoOtherIsDefined = (callee : Callee) (values : List (Option ℕ)) (d : Data) (l : Location) → AllByRecursion (λ p. p ≢ l) callee.parameters → value_at l (entered callee values d) ≡ None

-- the globals are the caller's
abbrev pub GlobalsAreTheCallers : Type 0
GlobalsAreTheCallers = (callee : Callee) (values : List (Option ℕ)) (d : Data) → (entered callee values d).globals ≡ d.globals

-- the output is the caller's
abbrev pub OutputIsTheCallers : Type 0
OutputIsTheCallers = (callee : Callee) (values : List (Option ℕ)) (d : Data) → (entered callee values d).output ≡ d.output
