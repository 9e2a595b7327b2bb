-- Programs that are refused: the function that is told is the first that needs too many nodes.
use Rattle.std.specs.Prelude.{ℕ, zero, suc, ◌≤◌, List, [], ◌∷◌, length}
use Rattle.lang_base.specs.declared.program.Named.{Named}
use Rattle.rtl_language.specs.Function.{node_limit}
use Rattle.cminor_syntax.specs.Trees.{FunctionTree}
use Rattle.rtlgen_definition.specs.Gen.{gen_function, HasTooManyNodes}
use Rattle.rtlgen.specs.declared.errors.GenError.{GenError}
use Rattle.rtlgen.specs.declared.errors.GenError.TheVariants.{NoMemory, TooManyNodes}

-- so few nodes that each can be numbered
abbrev pub HasFewNodes : Named FunctionTree → Type 0
HasFewNodes f = length (gen_function f.function).nodes ≤ node_limit

-- the first function that needs too many nodes has this number
abbrev pub IsFirstTooLarge : List (Named FunctionTree) → ℕ → Type 0
IsFirstTooLarge [] n = ⊥
IsFirstTooLarge (f ∷ fs) zero = HasTooManyNodes f.function
IsFirstTooLarge (f ∷ fs) (suc n) = HasFewNodes f × IsFirstTooLarge fs n

abbrev pub IsRefused : List (Named FunctionTree) → GenError → Type 0
IsRefused fs NoMemory = Unit {0}
IsRefused fs (TooManyNodes n) = IsFirstTooLarge fs n
