-- What is known of each function that a program is lowered to, said of the functions that it is lowered from.
use Rattle.std.proofs.Common.{List, [], ◌∷◌, map, All}
use Rattle.std.specs.List.{AllByRecursion}
use Rattle.std.proofs.lemmas.List.Elements.{All-from_recursion}
use Rattle.c_program.specs.declared.function.Function.{Function}
use Rattle.c_program.specs.Views.{function_tree}
use Rattle.cminor_syntax.specs.Fits.{IsFunction}
use Rattle.cminor_lowering.specs.Programs.{low_function, low_named}

by_recursion : (fs : List Function) → AllByRecursion (λ f. IsFunction f.function) (map low_named (map function_tree fs)) → AllByRecursion (λ f. IsFunction (low_function (function_tree f))) fs
by_recursion [] fit = tt
by_recursion (f ∷ fs) fit = (fit.0, by_recursion fs fit.1)

pub each_in_range : (fs : List Function) → AllByRecursion (λ f. IsFunction f.function) (map low_named (map function_tree fs)) → All (λ f. IsFunction (low_function (function_tree f))) fs
each_in_range fs fit = All-from_recursion (λ f. IsFunction (low_function (function_tree f))) fs (by_recursion fs fit)
