-- Why `lower_body` meets its contract.
use Rattle.std.proofs.Common.{◌≡◌, map, refl, ap, ◌∙◌}
use Rattle.c_program.specs.Views.{action_tree, actions_tree}
use Rattle.cminor_syntax.specs.Views.{statements_tree}
use Rattle.cminor_lowering.specs.Actions.{low_action, low_actions}
use Rattle.cminor_lowering.specs.Programs.{low_ending, ends_with_return}
use Rattle.cminor.proofs.Listed.{listed}
use Rattle.cminor.proofs.Bodies.{ends_here, ends_behind}
use Rattle.cfarm_verify_reading.proofs.bodies.lower_body.Goals as goal
use Rattle.cfarm_verify_reading.proofs.bodies.lower_body.Goals.{then-returns_zero+in_ok-push, else-returns_zero}

pub returns : goal.returns
returns g c =
    let f = c.args.function.now in
    let front = c.in_ok-body.body.items in
    let all = c.if-returns_zero.body.items in
    let before = low_actions c.args.spare (actions_tree f.body) in
    let last = low_ending f.ending (ends_with_return (actions_tree f.body)) in
    let same : statements_tree front ≡ before = listed c.args.spare front f.body (c.in_ok-body.ensures ∙ ap (map (λ a. low_action c.args.spare (action_tree a))) c.as_slice.ensures) in
    elim c.if-returns_zero.branch [
      | then-returns_zero+in_ok-push w ↦ ends_behind front all _ before last c.returns_zero.result same c.returns_zero.ensures w.if-returns_zero.true (ap (λ b. b.items) w.body-is ∙ w.in_ok-push.ensures.items) refl
      | else-returns_zero w ↦ ap (λ b. statements_tree b.items) w.body-is ∙ ends_here front before last c.returns_zero.result same c.returns_zero.ensures w.if-returns_zero.false
    ]
