-- Whether the cell was there, in the old machine.
use Rattle.std.proofs.Common.{List, Option, ℕ, take, sym, ap, ◌∙◌}
use Rattle.c_program.specs.Views.{actions_tree}
use Rattle.c_program.specs.Meaning.{Outcome, Falls, goes_on, exec_all, level, shown}
use Rattle.c_meaning_machine.specs.Scopes.{state_of}
use Rattle.c_meaning_machine.specs.Stacks.{waiting}
use Rattle.c_meaning_machine.specs.Resume.{functions_of, resume, later}
use Rattle.c_meaning_machine.proofs.Stops.{resume_fails}
use Rattle.c_meaning.proofs.acting.update_cell.Goals as goal

pub returns-then-update-clause-meaning : goal.returns-then-update-clause-meaning
returns-then-update-clause-meaning c = λ output.
    let m = c.args.machine.now in
    let new = c.update.new.scope in
    let functions = functions_of m in
    let stands = λ (below : List (Option ℕ)) (o : Outcome).
    shown (resume functions (waiting m.left) below (goes_on (exec_all (level functions m.bound) (actions_tree m.actions.now)) o)) in
    ap (λ base. stands (take base new.locals.items) (Falls (state_of new output))) c.update.ensures.base
    ∙ ap (λ below. stands below (Falls (state_of new output))) c.update.ensures.below
    ∙ ap (stands (take m.scope.base m.scope.locals.items)) (sym (c.if-update.ensures.ran (level functions m.bound) output))

pub returns-else-update-clause-meaning : goal.returns-else-update-clause-meaning
returns-else-update-clause-meaning c = λ output.
    let m = c.args.machine.now in
    let functions = functions_of m in
    sym
    (ap (λ (o : Outcome). shown (later m o)) (c.if-update.ensures.ran (level functions m.bound) output)
    ∙ ap shown (resume_fails functions (waiting m.left) (take m.scope.base m.scope.locals.items) output))
