-- Rows of terms and of actions in memory, and the trees that they stand for.
use Rattle.std.proofs.Common.{◌≡◌, suc, List, [], ◌∷◌, length, map, refl, ap, arith, All}
use Rattle.std.specs.List.{AllByRecursion}
use Rattle.c_program.specs.declared.term.Term.{Term}
use Rattle.c_program.specs.declared.action.Action.{Action}
use Rattle.c_program.specs.Views.{term_tree, action_tree, actions_tree}
use Rattle.cminor_lowering.specs.Held.{HasWords, IsHeld, AreHeld, action_count}

pub each_word : (xs : List Term) → All (λ t. HasWords (term_tree t)) xs → AllByRecursion HasWords (map term_tree xs)
each_word [] each = tt
each_word (x ∷ xs) each = (each 0 x (omega arith), each_word xs (λ k d below. each (suc k) d (omega arith)))

pub counted : (xs : List Action) → action_count (actions_tree xs) ≡ length xs
counted [] = refl
counted (x ∷ xs) = ap (λ k. suc k) (counted xs)

pub from_each : (xs : List Action) → All (λ a. IsHeld (action_tree a)) xs → AreHeld (actions_tree xs)
from_each [] each = tt
from_each (x ∷ xs) each = (each 0 x (omega arith), from_each xs (λ k d below. each (suc k) d (omega arith)))
