-- Statements that are what actions stand for, one by one, are what the actions stand for as a list.
use Rattle.std.proofs.Common.{◌≡◌, ℕ, List, [], ◌∷◌, map, refl, sym, ap, ◌∙◌}
use Rattle.c_program.specs.declared.action.Action.{Action}
use Rattle.c_program.specs.Views.{action_tree, actions_tree}
use Rattle.cminor_syntax.specs.Trees as T
use Rattle.cminor_syntax.specs.Views.{statement_tree, statements_tree}
use Rattle.cminor_syntax.specs.declared.statement.Statement.{Statement}
use Rattle.cminor_language.specs.Reading.{sequence_of}
use Rattle.cminor_language.proofs.Rows.{statements_named}
use Rattle.cminor_lowering.specs.Actions.{low_action, low_actions}

actions_named : (spare : ℕ) (actions : List Action) → sequence_of (map (λ a. low_action spare (action_tree a)) actions) ≡ low_actions spare (actions_tree actions)
actions_named spare [] = refl
actions_named spare (a ∷ rest) = ap (λ ss. T.First (low_action spare (action_tree a)) ss) (actions_named spare rest)

pub listed : (spare : ℕ) (statements : List Statement) (actions : List Action) → map statement_tree statements ≡ map (λ a. low_action spare (action_tree a)) actions →
    statements_tree statements ≡ low_actions spare (actions_tree actions)
listed spare statements actions e = sym (statements_named statements) ∙ ap sequence_of e ∙ actions_named spare actions
