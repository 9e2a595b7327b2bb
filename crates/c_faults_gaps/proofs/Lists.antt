-- The places behind some actions, one after the other.
use Rattle.std.proofs.Common.{◌≡◌, ℕ, ◌+◌, ◌<◌, List, ◌∷◌, length, get_or, drop, sym, ap, ◌∙◌}
use Rattle.std.proofs.lemmas.List.{drop_more}
use Rattle.c_program.specs.declared.action.Action.{Action}
use Rattle.c_program.specs.Views.{action_tree, actions_tree}
use Rattle.c_faults.specs.Places.{behind_action, behind_actions}

-- behind those from a number on
abbrev pub behind_from : ℕ → List Action → List ℕ → List ℕ
behind_from i actions ps = behind_actions (actions_tree (drop i actions)) ps

pub behind_one : (actions : List Action) (i : ℕ) (x : Action) (ps : List ℕ) → i < length actions → x ≡ get_or actions i x →
    behind_from i actions ps ≡ behind_from (i + 1) actions (behind_action (action_tree x) ps)
behind_one actions i x ps h e =
    ap (λ l. behind_actions (actions_tree l) ps) (drop_more actions i x h ∙ ap (λ y. y ∷ drop (i + 1) actions) (sym e))
