-- Why `lower_function` may call `lower_body`.
use Rattle.std.proofs.Common.{◌≤◌, max, suc, sym, subst, arith, All}
use Rattle.c_program.specs.Views.{action_tree, actions_tree}
use Rattle.cminor_syntax.specs.Fits.{StatementFits}
use Rattle.cminor_lowering.specs.Actions.{low_action, low_actions}
use Rattle.cminor_lowering.specs.Programs.{low_ending, ends_with_return, followed_by}
use Rattle.cminor_lowering.proofs.Pieces.{sequence_fitted}
use Rattle.cminor.proofs.Fitting.{actions_fit}
use Rattle.cminor.proofs.Bodies.{front_fits, wider_statements}
use Rattle.cfarm_verify_reading.proofs.functions.lower_function.Goals as goal

pub lower_body-requires-clause-fit : goal.lower_body-requires-clause-fit
lower_body-requires-clause-fit g c κs within =
    let f = c.args.function.now in
    let spare = max f.parameters f.locals in
    let ss = low_actions spare (actions_tree f.body) in
    let last = low_ending f.ending (ends_with_return (actions_tree f.body)) in
    let few : suc spare ≤ 65536 = omega (arith, c.requires.variables) in
    let fit = wider_statements (suc spare) 65536 few ss (front_fits (suc spare) ss last (sequence_fitted (suc spare) (followed_by ss last) c.requires.body)) in
    subst (λ n. All (λ a. StatementFits 65536 (low_action n (action_tree a))) f.body) (sym c.max-spare.ensures) (actions_fit spare f.body fit)
