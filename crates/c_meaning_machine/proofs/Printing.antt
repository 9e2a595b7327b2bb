-- What is printed is a beginning of the output, however the run goes on.
use Rattle.std.proofs.Common.{ℕ, List, [], ◌∷◌, ◌++◌, Option, Some, None, take, drop, refl}
use Rattle.lang_base.specs.Behaviour.{IsBeginningOf}
use Rattle.lang_base.proofs.Beginnings.{IsBeginningOf-refl, IsBeginningOf-trans}
use Rattle.c_program.specs.Trees.{FunctionTree}
use Rattle.c_program.specs.Views.{term_tree, action_tree, actions_tree}
use Rattle.c_program.specs.Meaning.{Outcome, Falls, Breaks, Continues, Returns, RunsOut, Fails, goes_on, exec_all, arrives, comes_back, ends, level, shown}
use Rattle.c_program.specs.Growth.{PrintsOn, prints-goes_on, prints-exec_all, prints-after_body, prints-turns_again, prints-comes_back, prints-ends, prints-level, prints-arrives}
use Rattle.c_meaning_machine.specs.declared.left.Left.{Left}
use Rattle.c_meaning_machine.specs.declared.left.Left.TheVariants.{Rest, Body, Behind, Back}
use Rattle.c_meaning_machine.specs.declared.next.Next.{Next}
use Rattle.c_meaning_machine.specs.declared.next.Next.TheVariants.{Goes, Prints, Stops}
use Rattle.c_meaning_machine.specs.declared.machine.Machine.{Machine}
use Rattle.c_meaning_machine.specs.Stacks.{waiting}
use Rattle.c_meaning_machine.specs.Resume.{resume, functions_of, here, later}
use Rattle.c_meaning_machine.specs.Steps.{shows}

prints_rest : (functions : List FunctionTree) (left : List Left) (below : List (Option ℕ)) (printed : List ℕ) (o : Outcome) → PrintsOn printed o → PrintsOn printed (resume functions left below o)
prints_rest functions [] below printed o h = h
prints_rest functions (Rest n actions ∷ left) below printed o h =
    let lower = level functions n in
    prints_rest functions left below printed (goes_on (exec_all lower (actions_tree actions.now)) o)
    (prints-goes_on printed (exec_all lower (actions_tree actions.now)) o (prints-exec_all lower (prints-level functions n) (actions_tree actions.now)) h)
prints_rest functions (Body c ∷ left) below printed o h =
    prints_rest functions left below printed _
    (prints-after_body (level functions c.bound) (prints-level functions c.bound) printed (term_tree c.condition.now) (action_tree c.body.now) (action_tree c.behind.now) o h)
prints_rest functions (Behind c ∷ left) below printed o h =
    prints_rest functions left below printed _
    (prints-turns_again (level functions c.bound) (prints-level functions c.bound) printed (term_tree c.condition.now) (action_tree c.body.now) (action_tree c.behind.now) o h)
prints_rest functions (Back c ∷ left) below printed o h =
    let lower = level functions c.bound in
    let back = comes_back c.target (drop c.base below) (ends c.ending o) in
    prints_rest functions left (take c.base below) printed (goes_on (exec_all lower (actions_tree c.actions.now)) back)
    (prints-goes_on printed (exec_all lower (actions_tree c.actions.now)) back (prints-exec_all lower (prints-level functions c.bound) (actions_tree c.actions.now))
    (prints-comes_back printed c.target (drop c.base below) (ends c.ending o) (prints-ends printed c.ending o h)))

prints_shown : (printed : List ℕ) (o : Outcome) → PrintsOn printed o → IsBeginningOf printed (shown o).output
prints_shown printed (Falls s) h = h
prints_shown printed (Breaks s) h = h
prints_shown printed (Continues s) h = h
prints_shown printed (Returns None s) h = h
prints_shown printed (Returns (Some w) s) h = h
prints_shown printed (RunsOut o) h = h
prints_shown printed (Fails o) h = h

prints_later : (m : Machine) (printed : List ℕ) (o : Outcome) → PrintsOn printed o → IsBeginningOf printed (shown (later m o)).output
prints_later m printed o h =
    let functions = functions_of m in
    let next = exec_all (level functions m.bound) (actions_tree m.actions.now) in
    prints_shown printed (later m o)
    (prints_rest functions (waiting m.left) (take m.scope.base m.scope.locals.items) printed (goes_on next o)
    (prints-goes_on printed next o (prints-exec_all (level functions m.bound) (prints-level functions m.bound) (actions_tree m.actions.now)) h))

pub prints_on : (next : Next) (m : Machine) (printed : List ℕ) → IsBeginningOf printed (shows next m printed).output
prints_on Goes m printed = prints_later m printed (Falls (here m printed)) (IsBeginningOf-refl printed)
prints_on (Prints byte target) m printed =
    let now = here m (printed ++ byte ∷ []) in
    prints_later m printed (arrives target byte now) (IsBeginningOf-trans printed now.output _ (byte ∷ [], refl) (prints-arrives target byte now))
prints_on (Stops how) m printed = IsBeginningOf-refl printed
