-- The parts of a statement that is in range are in range.
use Rattle.std.proofs.Common.{ℕ, List, [], ◌∷◌, Option, Some, None, map, arith, All}
use Rattle.std.specs.List.{AllByRecursion}
use Rattle.std.proofs.lemmas.List.Elements.{All-from_recursion}
use Rattle.c_program.specs.declared.term.Term.{Term}
use Rattle.c_program.specs.declared.action.Action.{Action}
use Rattle.c_program.specs.declared.action.Target.{Target}
use Rattle.c_program.specs.declared.action.Target.TheVariants.{Nowhere, Local, Global, Caller}
use Rattle.c_program.specs.Views.{term_tree, action_tree, actions_tree}
use Rattle.cminor_syntax.specs.Trees.{StatementTree}
use Rattle.cminor_syntax.specs.Fits.{ExpressionFits, StatementFits, StatementsFit, TargetFits}
use Rattle.cminor_lowering.specs.Terms.{low_term}
use Rattle.cminor_lowering.specs.Actions.{low_given_by, low_action, low_actions}
use Rattle.cminor.specs.Space.{HasRoom}

-- the target of what gives its word to a variable that is there
pub target_has_space : (spare : ℕ) (target : Target) (s : Option ℕ → StatementTree) →
    ((v : Option ℕ) → StatementFits 65536 (s v) → TargetFits 65536 v) → StatementFits 65536 (low_given_by spare target s) → HasRoom target
target_has_space spare Nowhere s there fits = tt
target_has_space spare (Local n) s there fits = there (Some n) fits
target_has_space spare (Global g) s there fits = omega (arith, fits.1.1.0.0)
target_has_space spare Caller s there fits = tt

-- what holds of each such statement that is in range, whichever variable it names
pub given_fits : (P : Type 0) (spare : ℕ) (target : Target) (s : Option ℕ → StatementTree) →
    ((v : Option ℕ) → StatementFits 65536 (s v) → P) → StatementFits 65536 (low_given_by spare target s) → P
given_fits P spare Nowhere s holds fits = holds None fits
given_fits P spare (Local n) s holds fits = holds (Some n) fits
given_fits P spare (Global g) s holds fits = holds (Some spare) fits.1.0
given_fits P spare Caller s holds fits = holds (Some spare) fits.1.0

-- each argument
by_recursion : (terms : List Term) → AllByRecursion (ExpressionFits 65536) (map low_term (map term_tree terms)) → AllByRecursion (λ t. ExpressionFits 65536 (low_term (term_tree t))) terms
by_recursion [] fit = tt
by_recursion (t ∷ ts) fit = (fit.0, by_recursion ts fit.1)

pub arguments_fit : (terms : List Term) → AllByRecursion (ExpressionFits 65536) (map low_term (map term_tree terms)) → All (λ t. ExpressionFits 65536 (low_term (term_tree t))) terms
arguments_fit terms fit = All-from_recursion (λ t. ExpressionFits 65536 (low_term (term_tree t))) terms (by_recursion terms fit)

-- each action
each_by_recursion : (spare : ℕ) (actions : List Action) → StatementsFit 65536 (low_actions spare (actions_tree actions)) → AllByRecursion (λ a. StatementFits 65536 (low_action spare (action_tree a))) actions
each_by_recursion spare [] fit = tt
each_by_recursion spare (a ∷ rest) fit = (fit.0, each_by_recursion spare rest fit.1)

pub actions_fit : (spare : ℕ) (actions : List Action) → StatementsFit 65536 (low_actions spare (actions_tree actions)) → All (λ a. StatementFits 65536 (low_action spare (action_tree a))) actions
actions_fit spare actions fit = All-from_recursion (λ a. StatementFits 65536 (low_action spare (action_tree a))) actions (each_by_recursion spare actions fit)
