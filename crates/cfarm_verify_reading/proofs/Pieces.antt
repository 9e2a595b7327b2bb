-- Parts of actions, and what they are lowered to.
use Rattle.std.proofs.Common.{◌≡◌, ℕ, List, ◌++◌, take, drop, sym, subst, ◌∙◌}
use Rattle.std.proofs.lemmas.List.{map-append}
use Rattle.std.proofs.lemmas.List.Elements.{All-take, All-drop}
use Rattle.c_program.specs.declared.action.Action.{Action}
use Rattle.c_program.specs.Views.{action_tree}
use Rattle.cminor_syntax.specs.declared.statement.Statement.{Statement}
use Rattle.cminor_syntax.specs.Fits.{StatementFits}
use Rattle.cminor_syntax.specs.Views.{statement_tree}
use Rattle.cminor_lowering.specs.Actions.{low_action}
use Rattle.cfarm_verify_reading.specs.Lowered.{AreLowered, Fit}

-- what two parts are lowered to, one behind the other
pub behind : (spare : ℕ) (xs ys : List Action) (ss ts all : List Statement) → AreLowered spare xs ss → AreLowered spare ys ts → all ≡ ss ++ ts → AreLowered spare (xs ++ ys) all
behind spare xs ys ss ts all first second are =
    subst (λ l. AreLowered spare (xs ++ ys) l) (sym are)
    (map-append statement_tree ss ts ∙ (λ i. first i ++ second i) ∙ sym (map-append (λ a. low_action spare (action_tree a)) xs ys))

-- a part of what fits
pub front_fits : (spare n : ℕ) (actions front : List Action) → Fit spare actions → front ≡ take n actions → Fit spare front
front_fits spare n actions front fit is =
    subst (λ l. Fit spare l) (sym is) (All-take (λ a. StatementFits 65536 (low_action spare (action_tree a))) n actions fit)

pub back_fits : (spare n : ℕ) (actions back : List Action) → Fit spare actions → back ≡ drop n actions → Fit spare back
back_fits spare n actions back fit is =
    subst (λ l. Fit spare l) (sym is) (All-drop (λ a. StatementFits 65536 (low_action spare (action_tree a))) n actions fit)
