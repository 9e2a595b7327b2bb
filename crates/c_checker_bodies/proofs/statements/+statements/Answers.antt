-- Why the loop of `+statements` over `statement` keeps the invariant, and it may call `check_statement`.
use Rattle.std.proofs.Common.{rules, suc, ◌+◌, ◌≤◌, length, sym, ap, subst, ◌∙◌}
use Rattle.c_syntax.specs.Heights.{statement_height, statements_height}
use Rattle.c_syntax.specs.Trees as T
use Rattle.c_syntax.specs.Views.{statement_tree, statements_tree}
use Rattle.c_syntax.specs.declared.statement.Statement.{the_lemmas}
use Rattle.c_checker_bodies.proofs.Blocks.{view_block}
use Rattle.c_checker_bodies.proofs.Turns.{goes_on, all_made}
use Rattle.c_checker_bodies.proofs.statements.+statements.Goals as goal

pub check_statement-check_block-requires : goal.check_statement-check_block-requires
check_statement-check_block-requires t c =
    let low : c.args.context.depth + statement_height (T.Block (statements_tree c.in-Block.all.items)) ≤ 1000 =
    subst (λ s. c.args.context.depth + statement_height s ≤ 1000) (ap statement_tree c.in-Block.is ∙ view_block c.in-Block.all) c.requires in
    (search (rules, the_lemmas), subst (λ l. c.args.context.depth + suc (statements_height (statements_tree l)) ≤ 1000) (sym c.as_slice.ensures.value) low)

pub check_statements-loop-statement-preserved : goal.check_statements-loop-statement-preserved
check_statements-loop-statement-preserved t c =
    rw (c.in_ok-push.ensures.items, c.in_ok-check_statement.ensures.here)
    (goes_on c.args.functions.now c.args.context c.args.here.now c.args.all.now c.loop-statement.here c.loop-statement.actions.items c.loop-statement.statement-index c.statement-item.result c.in_ok-check_statement.field-0 c.loop-statement-test.true c.statement-item.is c.loop-statement.invariant c.in_ok-check_statement.ensures.ok c.in_ok-check_statement.ensures.action)

pub check_statements-returns-clause-actions : goal.check_statements-returns-clause-actions
check_statements-returns-clause-actions t c =
    let past : length c.args.all.now ≤ c.loop-statement.statement-index = search rules in
    all_made c.args.functions.now c.args.context c.args.here.now c.args.all.now c.loop-statement.here c.loop-statement.actions.items c.loop-statement.statement-index past c.loop-statement.invariant
