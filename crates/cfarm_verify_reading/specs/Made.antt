-- What is made of each function of a program.
use Rattle.std.specs.Prelude.{◌≡◌, ℕ, List, [], ◌∷◌, map, Option, Some, None, slice_get}
use Rattle.lang_base.specs.declared.program.Named.{Named}
use Rattle.c_program.specs.declared.function.Function.{Function}
use Rattle.c_program.specs.Views.{function_tree}
use Rattle.cminor_lowering.specs.Programs.{low_named}
use Rattle.rtl_language.specs.Function.{FunctionData}
use Rattle.rtlgen_definition.specs.Gen.{gen_named}

-- the RTL functions that the functions are lowered and translated to, in order
abbrev pub made_of : List Function → List (Named FunctionData)
made_of functions = map gen_named (map low_named (map function_tree functions))

-- the same of the function of this number
abbrev pub IsMadeAt : List Function → ℕ → Named FunctionData → Type 0
IsMadeAt functions i made = (f : Function) → slice_get functions i ≡ Some f → made ≡ gen_named (low_named (function_tree f))

-- what was made of a function is what it is translated to; nothing is said where nothing was made
abbrev pub IsMade : Named FunctionData → Option (Named FunctionData) → Type 0
IsMade wanted None = Unit {0}
IsMade wanted (Some made) = made ≡ wanted

-- function by function
abbrev pub AreMade : List (Named FunctionData) → List (Option (Named FunctionData)) → Type 0
AreMade [] [] = Unit {0}
AreMade [] (one ∷ found) = ⊥
AreMade (x ∷ wanted) [] = ⊥
AreMade (x ∷ wanted) (one ∷ found) = IsMade x one × AreMade wanted found
