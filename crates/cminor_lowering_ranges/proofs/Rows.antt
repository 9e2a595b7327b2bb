-- Rows of functions in memory, and the trees that they stand for.
use Rattle.std.proofs.Common.{zero, suc, List, [], ◌∷◌, map, arith, All}
use Rattle.std.specs.List.{AllByRecursion}
use Rattle.c_program.specs.declared.function.Function.{Function}
use Rattle.c_program.specs.Views.{function_tree}
use Rattle.cminor_syntax.specs.Fits.{IsFunction}
use Rattle.cminor_lowering.specs.Programs.{low_function, low_named}
use Rattle.cminor_lowering.specs.Held.{IsHeldFunction}

pub functions_held : (fs : List Function) → All (λ f. IsHeldFunction (function_tree f)) fs → AllByRecursion IsHeldFunction (map function_tree fs)
functions_held [] each = tt
functions_held (f ∷ fs) each = (each 0 f (omega arith), functions_held fs (λ k d below. each (suc k) d (omega arith)))

-- ---- what is known of each by recursion

pub each_of : {X : Type 0} (P : X → Type 0) (xs : List X) → AllByRecursion P xs → All P xs
each_of P [] all k d below = absurd (omega arith)
each_of P (x ∷ xs) all zero d below = all.0
each_of P (x ∷ xs) all (suc k) d below = each_of P xs all.1 k d (omega arith)

pub each_in_range : (fs : List Function) → AllByRecursion (λ f. IsFunction f.function) (map low_named (map function_tree fs)) → All (λ f. IsFunction (low_function (function_tree f))) fs
each_in_range [] all k d below = absurd (omega arith)
each_in_range (f ∷ fs) all zero d below = all.0
each_in_range (f ∷ fs) all (suc k) d below = each_in_range fs all.1 k d (omega arith)
