-- The statements of actions, in parts.
use Rattle.std.specs.Prelude.{◌≡◌, ℕ, List, ◌++◌, map, All, Result, IfOk}
use Rattle.std.specs.Global.{Vec}
use Rattle.c_program.specs.declared.action.Action.{Action}
use Rattle.c_program.specs.Views.{action_tree}
use Rattle.cminor_syntax.specs.declared.statement.Statement.{Statement}
use Rattle.cminor_syntax.specs.Fits.{StatementFits}
use Rattle.cminor_syntax.specs.Views.{statement_tree}
use Rattle.cminor_lowering.specs.Actions.{low_action}

-- each action is lowered to a statement in range
abbrev pub Fit : ℕ → List Action → Type 0
Fit spare actions = All (λ a. StatementFits 65536 (low_action spare (action_tree a))) actions

-- these are the statements, in order
abbrev pub AreLowered : ℕ → List Action → List Statement → Type 0
AreLowered spare actions statements = map statement_tree statements ≡ map (λ a. low_action spare (action_tree a)) actions

-- what two parts are lowered to, one behind the other, both are lowered to
abbrev pub JoinsLowered : {E : Type 0} → Result (Vec Statement) E → Result (Vec Statement) E → Result (Vec Statement) E → Type 0
JoinsLowered first second both =
    (spare : ℕ) (front back : List Action) → IfOk first (λ ss. AreLowered spare front ss.items) → IfOk second (λ ss. AreLowered spare back ss.items)
    → IfOk both (λ ss. AreLowered spare (front ++ back) ss.items)
