-- By what the arguments are worth, whether the bound is spent, and whether there is such a function.
use Rattle.std.proofs.Common.{◌≡◌, ℕ, ◌-◌, ◌<◌, List, [], ◌++◌, length, drop, take, map, Option, Some, None, refl, sym, ap, ◌∙◌, rules, arith}
use Rattle.std.specs.Prelude.{replicate}
use Rattle.std.proofs.lemmas.List.{take_at, drop_at}
use Rattle.c_program.specs.Views.{actions_tree, function_tree}
use Rattle.c_program.specs.State.{State}
use Rattle.c_program.specs.Meaning.{Outcome, goes_on, exec_all, comes_back, ends, calls, level, shown}
use Rattle.c_meaning_machine.specs.Stacks.{waiting}
use Rattle.c_meaning_machine.specs.Costs.{level_cost}
use Rattle.c_meaning_machine.specs.Resume.{functions_of, here, resume, later}
use Rattle.c_meaning_machine.proofs.Levels.{level_none, level_calls, cost_calls}
use Rattle.c_meaning_machine.proofs.Placing.{arguments_fail, arguments_given}
use Rattle.c_meaning_machine.proofs.Stops.{resume_fails, resume_runs_out}
use Rattle.c_meaning.proofs.calling.call.Goals as goal

pub returns-then-not-branch-clause-meaning : goal.returns-then-not-branch-clause-meaning
returns-then-not-branch-clause-meaning c = λ output.
    let m = c.args.machine.now in
    let s = here m output in
    let none = arguments_fail _ c.args.called.now.arguments s.locals m.scope.locals.items c.push_arguments.new.scope.locals.items m.scope.globals.items m.scope.globals.items output _ c.as_slice-arguments.ensures refl c.if-not-branch.true c.in_ok-push_arguments.ensures.placed in
    let after = λ (arguments : Option (List ℕ)). shown (later m (calls (level (functions_of m) m.bound) c.args.called.now.function c.args.target s arguments)) in
    sym (ap after none ∙ ap shown (resume_fails (functions_of m) (waiting m.left) (take m.scope.base m.scope.locals.items) output))

pub returns-then-machine-eq0-clause-meaning : goal.returns-then-machine-eq0-clause-meaning
returns-then-machine-eq0-clause-meaning c = λ output.
    let m = c.args.machine.now in
    let s = here m output in
    let given = arguments_given _ c.args.called.now.arguments s.locals m.scope.locals.items c.push_arguments.new.scope.locals.items m.scope.globals.items m.scope.globals.items output _ c.as_slice-arguments.ensures refl c.if-not-branch.false c.in_ok-push_arguments.ensures.placed in
    let after = λ (arguments : Option (List ℕ)). shown (later m (calls (level (functions_of m) m.bound) c.args.called.now.function c.args.target s arguments)) in
    let back = λ (o : Outcome). shown (later m (comes_back c.args.target s.locals o)) in
    sym
    (ap after given.1 ∙ ap back (level_none (functions_of m) m.bound _ s c.if-machine-eq0.true)
    ∙ ap shown (resume_runs_out (functions_of m) (waiting m.left) (take m.scope.base m.scope.locals.items) output))

pub returns-in-None-clause-meaning : goal.returns-in-None-clause-meaning
returns-in-None-clause-meaning c = λ output.
    let m = c.args.machine.now in
    let s = here m output in
    let given = arguments_given _ c.args.called.now.arguments s.locals m.scope.locals.items c.push_arguments.new.scope.locals.items m.scope.globals.items m.scope.globals.items output _ c.as_slice-arguments.ensures refl c.if-not-branch.false c.in_ok-push_arguments.ensures.placed in
    let bound : 0 < m.bound = omega arith in
    let after = λ (arguments : Option (List ℕ)). shown (later m (calls (level (functions_of m) m.bound) c.args.called.now.function c.args.target s arguments)) in
    let back = λ (o : Outcome). shown (later m (comes_back c.args.target s.locals o)) in
    sym
    (ap after given.1 ∙ ap back (level_calls (functions_of m) m.bound c.args.called.now.function given.0 s bound)
    ∙ ap back (c.in-None.ensures.missing (level (functions_of m) (m.bound - 1)) given.0 s given.3)
    ∙ ap shown (resume_fails (functions_of m) (waiting m.left) (take m.scope.base m.scope.locals.items) output))

pub returns-in_ok-next-in-Some-clause-meaning : goal.returns-in_ok-next-in-Some-clause-meaning
returns-in_ok-next-in-Some-clause-meaning c = λ output.
    let m = c.args.machine.now in
    let s = here m output in
    let f = function_tree c.in-Some.function.now in
    let given = arguments_given _ c.args.called.now.arguments s.locals m.scope.locals.items c.push_arguments.new.scope.locals.items m.scope.globals.items m.scope.globals.items output _ c.as_slice-arguments.ensures refl c.if-not-branch.false c.in_ok-push_arguments.ensures.placed in
    let bound : 0 < m.bound = omega arith in
    let after = λ (arguments : Option (List ℕ)). shown (later m (calls (level (functions_of m) m.bound) c.args.called.now.function c.args.target s arguments)) in
    let back = λ (o : Outcome). shown (later m (comes_back c.args.target s.locals o)) in
    let functions = functions_of m in
    let old = m.scope.locals.items in
    let end = c.len-end.result in
    let new = c.push_arguments.new.scope.locals.items in
    let count : length old ≡ end = search (arith, rules) in
    let scope = c.push_arguments.new.scope in
    let stands = λ (base : ℕ) (globals : List (List ℕ)) (below arguments : List (Option ℕ)).
    let begun : State = record { locals = arguments ++ replicate (f.locals - f.parameters) None; globals = globals; output = output } in
    shown (resume functions (waiting m.left) (take base below)
    (goes_on (exec_all (level functions m.bound) (actions_tree m.actions.now))
    (comes_back c.args.target (drop base below) (ends f.ending (exec_all (level functions (m.bound - 1)) f.body begun))))) in
    c.in_ok-next-in-Some.ensures.meaning output
    ∙ ap (λ base. stands base scope.globals.items (take end new) (drop end new)) c.in_ok-push_arguments.ensures.base
    ∙ ap (λ globals. stands m.scope.base globals (take end new) (drop end new)) c.in_ok-push_arguments.ensures.globals
    ∙ ap (λ below. stands m.scope.base s.globals below (drop end new)) (ap (take end) given.2 ∙ take_at old (map Some given.0) end count)
    ∙ ap (stands m.scope.base s.globals old) (ap (drop end) given.2 ∙ drop_at old (map Some given.0) end count)
    ∙ sym
    (ap after given.1 ∙ ap back (level_calls functions m.bound c.args.called.now.function given.0 s bound)
    ∙ ap back (c.in-Some.ensures.found (level functions (m.bound - 1)) given.0 s given.3))

pub returns-in_ok-next-in-Some-clause-cost : goal.returns-in_ok-next-in-Some-clause-cost
returns-in_ok-next-in-Some-clause-cost c =
    let m = c.args.machine.now in
    let bound : 0 < m.bound = omega arith in
    omega (arith, cost_calls (functions_of m) m.bound c.args.called.now.function [] bound, c.in_ok-next-in-Some.ensures.cost, c.in-Some.ensures.cost (level_cost (functions_of m) (m.bound - 1)))
