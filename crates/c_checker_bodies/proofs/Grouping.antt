-- The faults of a `for` are those before its body and then those of its body.
use Rattle.std.proofs.Common.{◌≡◌, ◌++◌, sym, ap, append_assoc}
use Rattle.std.specs.Prelude.{Option}
use Rattle.c_syntax.specs.Trees.{ExpressionTree, SetTree, StartTree, StatementTree}
use Rattle.c_checker_rules.specs.declared.context.Context.{Context}
use Rattle.c_checker_rules.specs.Expressions.{expression_faults}
use Rattle.c_checker_rules.specs.Calls.{Functions}
use Rattle.c_checker_rules.specs.Locals.{looping, Here}
use Rattle.c_checker_rules.specs.Statements.{with_start, optional_faults, set_faults, start_faults, statement_faults}
use Rattle.c_checker_bodies.specs.Loops.{heads_faults, for_faults}

pub for_grouped : (f : Functions) (p : Context) (h : Here) (start : StartTree) (e : Option ExpressionTree) (step : Option SetTree) (s : StatementTree) →
    heads_faults p.depth h start e step ++ statement_faults f (looping p) (with_start p.depth h start) s ≡ for_faults f p h start e step s
for_grouped f p h start e step s =
    let a = start_faults p.depth h start in
    let b = optional_faults (expression_faults (with_start p.depth h start).scope) e in
    let c = optional_faults (set_faults (with_start p.depth h start).scope) step in
    let d = statement_faults f (looping p) (with_start p.depth h start) s in
    ap (λ l. l ++ d) (sym (append_assoc a b c))
