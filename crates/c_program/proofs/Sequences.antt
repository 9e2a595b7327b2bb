-- A sequence's actions, in memory and as a list.
use Rattle.std.proofs.Common.{◌≡◌, List, [], ◌∷◌, ◌++◌, refl, ap, rules}
use Rattle.std.specs.Global.{Vec}
use Rattle.c_program.specs.Trees.{ActionTree, ActionsTree}
use Rattle.c_program.specs.Trees as T
use Rattle.c_program.specs.Views.{action_tree, actions_tree, row_tree}
use Rattle.c_program.specs.declared.action.Action.{Action, Row_of-Action, end_of-Action, more_of-Action, items-the_row-Action, Sequence, the_lemmas}

pub row_named : (m : _) (k : Row_of-Action m) → row_tree k ≡ actions_tree (items-the_row-Action m k)
row_named _ end_of-Action = refl
row_named _ (more_of-Action s rest) = ap (λ l. T.First (action_tree s) l) (row_named _ rest)

pub view_sequence : (v : Vec Action) → action_tree (Sequence v) ≡ T.Sequence (actions_tree v.items)
view_sequence v = search (rules, row_named, the_lemmas)

-- actions that stand before others
abbrev pub before : List Action → ActionsTree → ActionsTree
before [] rest = rest
before (a ∷ behind) rest = T.First (action_tree a) (before behind rest)

pub before_last : (front : List Action) (a : Action) (rest : ActionsTree) → before (front ++ a ∷ []) rest ≡ before front (T.First (action_tree a) rest)
before_last [] a rest = refl
before_last (b ∷ bs) a rest = ap (λ l. T.First (action_tree b) l) (before_last bs a rest)

pub before_none : (front : List Action) → before front T.Done ≡ actions_tree front
before_none [] = refl
before_none (a ∷ behind) = ap (λ l. T.First (action_tree a) l) (before_none behind)
