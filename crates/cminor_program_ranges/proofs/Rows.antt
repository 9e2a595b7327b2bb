-- Rows in memory, and what is known of all in them.
use Rattle.std.proofs.Common.{ℕ, zero, suc, List, [], ◌∷◌, map, get_or, arith, All}
use Rattle.std.specs.List.{AllByRecursion}
use Rattle.c_lexer_lexemes.specs.Lexemes.{IsName}
use Rattle.c_program.specs.declared.function.Function.{Function}
use Rattle.c_program.specs.Views.{function_tree}

pub by_recursion : {X : Type 0} (P : X → Type 0) (xs : List X) → All P xs → AllByRecursion P xs
by_recursion P [] each = tt
by_recursion P (x ∷ xs) each = (each 0 x (omega arith), by_recursion P xs (λ k d below. each (suc k) d (omega arith)))

pub number_by_recursion : (P : ℕ → Type 0) (xs : List ℕ) → ((i : ℕ) → P (get_or xs i 0)) → AllByRecursion P xs
number_by_recursion P [] each = tt
number_by_recursion P (x ∷ xs) each = (each 0, number_by_recursion P xs (λ i. each (suc i)))

pub names_of : (fs : List Function) → All (λ f. IsName f.name) fs → AllByRecursion (λ f. IsName f.name) (map function_tree fs)
names_of [] each = tt
names_of (f ∷ fs) each = (each 0 f (omega arith), names_of fs (λ k d below. each (suc k) d (omega arith)))

pub each_name : (fs : List Function) → AllByRecursion (λ f. IsName f.name) (map function_tree fs) → All (λ f. IsName f.name) fs
each_name [] all k d below = absurd (omega arith)
each_name (f ∷ fs) all zero d below = all.0
each_name (f ∷ fs) all (suc k) d below = each_name fs all.1 k d (omega arith)
