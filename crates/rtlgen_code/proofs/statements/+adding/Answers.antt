-- Why `+adding` may call `add_statement`.
use Rattle.std.proofs.Common.{◌≡◌, ◌<◌, ◌+◌, sym, ap, subst, ◌∙◌}
use Rattle.std.specs.Prelude.{IfOk, reverse}
use Rattle.cminor_syntax.specs.Trees as T
use Rattle.cminor_syntax.specs.Views.{expression_tree, statement_tree, statements_tree}
use Rattle.cminor_codec.proofs.Rows.{view_sequence}
use Rattle.rtlgen_definition.specs.Gen.{statement, statement_needs}
use Rattle.rtlgen_code.specs.Adding.{Adds}
use Rattle.rtlgen_code.proofs.StatementArms.{if_added, loop_added}
use Rattle.rtlgen_code.proofs.statements.+adding.Goals as goal

pub add_statement-each_has_few-requires : goal.add_statement-each_has_few-requires
add_statement-each_has_few-requires t c =
    let all = c.as_slice-all.result.now in
    let same : statement_tree c.args.statement.now ≡ T.Sequence (statements_tree all) =
    ap statement_tree c.in-Sequence.is ∙ view_sequence c.in-Sequence.all ∙ ap (λ xs. T.Sequence (statements_tree xs)) (sym c.as_slice-all.ensures.value) in
    subst (λ s. c.args.temporary + statement_needs s < 65536) same c.requires

pub add_statement-returns-in-Sequence-clause-added : goal.add_statement-returns-in-Sequence-clause-added
add_statement-returns-in-Sequence-clause-added t c =
    let all = c.as_slice-all.result.now in
    let same : statement_tree c.args.statement.now ≡ T.Sequence (statements_tree all) =
    ap statement_tree c.in-Sequence.is ∙ view_sequence c.in-Sequence.all ∙ ap (λ xs. T.Sequence (statements_tree xs)) (sym c.as_slice-all.ensures.value) in
    subst (λ s. IfOk c.add_statements.result (λ e. Adds (statement s c.args.temporary (reverse c.args.exits.now.items)) c.args.next c.args.graph.now c.add_statements.new.graph e)) (sym same) c.add_statements.ensures.added

pub add_statement-returns-in_ok-branch-in-If-clause-added : goal.add_statement-returns-in_ok-branch-in-If-clause-added
add_statement-returns-in_ok-branch-in-If-clause-added t c =
    let n = c.args.temporary in
    let exits = reverse c.args.exits.now.items in
    let o = expression_tree c.in-If.condition in
    let s = statement_tree c.in-If.then.value in
    let u = statement_tree c.in-If.other.value in
    let r = c.add_operand.result in
    let k = c.add_operand.new.graph in
    let tree : statement_tree c.args.statement.now ≡ T.If o s u = ap statement_tree c.in-If.is in
    let other = subst (λ x. Adds (statement (statement_tree x) n exits) c.args.next c.args.graph.now c.add_statement.new.graph c.in_ok-other-in-If.other) c.deref.ensures c.in_ok-other-in-If.ensures.added in
    let taken =
    subst (λ x. Adds (statement (statement_tree x) n exits) c.args.next c.add_statement.new.graph c.add_statement-in-If.new.graph c.in_ok-then-in-If.then) c.deref-in-If.ensures
    (subst (λ es. Adds (statement (statement_tree c.deref-in-If.result.now) n (reverse es)) c.args.next c.add_statement.new.graph c.add_statement-in-If.new.graph c.in_ok-then-in-If.then) c.in_ok-other-in-If.ensures.exits c.in_ok-then-in-If.ensures.added) in
    subst (λ x. IfOk r (λ e. Adds (statement x n exits) c.args.next c.args.graph.now k e)) (sym tree)
    (if_added n exits k o s u r c.operand_register.ensures other taken c.in_ok-branch-in-If.ensures c.add_operand.ensures)

pub add_statement-returns-in_ok-turn-in-Loop-clause-added : goal.add_statement-returns-in_ok-turn-in-Loop-clause-added
add_statement-returns-in_ok-turn-in-Loop-clause-added t c =
    let n = c.args.temporary in
    let exits = reverse c.args.exits.now.items in
    let tree : statement_tree c.args.statement.now ≡ T.Loop (statement_tree c.in-Loop.body.value) = ap statement_tree c.in-Loop.is in
    let body = subst (λ x. Adds (statement (statement_tree x) n exits) c.in_ok-head-in-Loop.head c.add.new.self c.add_statement-in-Loop.new.graph c.in_ok-turn-in-Loop.turn) c.deref-in-Loop.ensures c.in_ok-turn-in-Loop.ensures.added in
    subst (λ x. Adds (statement x n exits) c.args.next c.args.graph.now c.go_on.new.graph c.in_ok-head-in-Loop.head) (sym tree)
    (loop_added c.in_ok-head-in-Loop.ensures body c.go_on.ensures.nodes c.go_on.ensures.space)
