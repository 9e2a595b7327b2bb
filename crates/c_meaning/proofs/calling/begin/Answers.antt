-- The function's locals stand behind those of its callers.
use Rattle.std.proofs.Common.{◌≡◌, ℕ, ◌-◌, List, drop, take, Option, refl, ap, ◌∙◌}
use Rattle.c_program.specs.declared.action.Action.{Action}
use Rattle.c_program.specs.Views.{actions_tree, function_tree}
use Rattle.c_program.specs.State.{State}
use Rattle.c_program.specs.Meaning.{goes_on, exec_all, comes_back, ends, level, shown}
use Rattle.c_meaning_machine.specs.Stacks.{waiting}
use Rattle.c_meaning_machine.specs.Resume.{functions_of, resume}
use Rattle.c_meaning_machine.proofs.Placing.{locals_behind}
use Rattle.c_meaning.proofs.calling.begin.Goals as goal

pub returns-clause-meaning : goal.returns-clause-meaning
returns-clause-meaning c = λ output.
    let m = c.args.machine.now in
    let f = function_tree c.args.function.now in
    let functions = functions_of m in
    let end = c.args.end in
    let new = c.push_blank.new.locals.items in
    let stands = λ (actions body : List Action) (below locals : List (Option ℕ)).
    let begun : State = record { locals = locals; globals = m.scope.globals.items; output = output } in
    shown (resume functions (waiting m.left) (take m.scope.base below)
    (goes_on (exec_all (level functions m.bound) (actions_tree actions))
    (comes_back c.args.target (drop m.scope.base below) (ends f.ending (exec_all (level functions (m.bound - 1)) (actions_tree body) begun))))) in
    let actions : c.same.result.now ≡ m.actions.now = rw c.same.ensures refl in
    c.in_ok-next.ensures.meaning output
    ∙ ap (λ l. stands l c.as_slice.result.now (take end new) (drop end new)) actions
    ∙ ap (λ l. stands m.actions.now l (take end new) (drop end new)) c.as_slice.ensures
    ∙ locals_behind (stands m.actions.now c.args.function.now.body) end c.saturating_sub.result (f.locals - f.parameters) m.scope.locals.items new c.requires.end c.saturating_sub.ensures c.in_ok-push_blank.ensures
