-- Why `+expressions` meets what its body asks for.
use Rattle.std.proofs.Common.{◌≡◌, ◌+◌, suc, sym, ap, subst, add-one, ◌∙◌}
use Rattle.std.specs.Prelude.{IfOk}
use Rattle.cminor_syntax.specs.Trees as T
use Rattle.cminor_syntax.specs.Views.{expression_tree}
use Rattle.rtlgen_definition.specs.Gen.{expression, operand, operand_register}
use Rattle.rtlgen_code.specs.Adding.{Adds}
use Rattle.rtlgen_code.proofs.Arms.{load_added, unary_added, binary_added, choice_added}
use Rattle.rtlgen_code.proofs.expressions.+expressions.Goals as goal

pub add_expression-returns-in_ok-last-in-Load : goal.add_expression-returns-in_ok-last-in-Load
add_expression-returns-in_ok-last-in-Load t c =
    let i = expression_tree c.in-Load.index.value in
    let r = c.add_operand.result in
    let k = c.add_operand.new.graph in
    let tree : expression_tree c.args.expression.now ≡ T.Load c.in-Load.global i = ap expression_tree c.in-Load.is in
    let at : c.operand_register.result ≡ operand_register i c.args.temporary = c.operand_register.ensures ∙ ap (λ x. operand_register (expression_tree x) c.args.temporary) c.deref.ensures in
    let first = subst (λ x. IfOk r (λ e. Adds (operand (expression_tree x) c.args.temporary) c.in_ok-last-in-Load.last c.add_act-in-Load.new.graph k e)) c.deref-in-Load.ensures c.add_operand.ensures in
    subst (λ x. IfOk r (λ e. Adds (expression x c.args.target c.args.temporary) c.args.next c.args.graph.now k e)) (sym tree)
    (load_added c.args.target c.args.temporary k c.in-Load.global i r at c.in_ok-last-in-Load.ensures first)

pub add_expression-returns-in_ok-last-in-Unary : goal.add_expression-returns-in_ok-last-in-Unary
add_expression-returns-in_ok-last-in-Unary t c =
    let a = expression_tree c.in-Unary.argument.value in
    let r = c.add_operand-in-Unary.result in
    let k = c.add_operand-in-Unary.new.graph in
    let tree : expression_tree c.args.expression.now ≡ T.Unary c.in-Unary.op a = ap expression_tree c.in-Unary.is in
    let at : c.operand_register-in-Unary.result ≡ operand_register a c.args.temporary = c.operand_register-in-Unary.ensures ∙ ap (λ x. operand_register (expression_tree x) c.args.temporary) c.deref-in-Unary.ensures in
    let first = subst (λ x. IfOk r (λ e. Adds (operand (expression_tree x) c.args.temporary) c.in_ok-last-in-Unary.last c.add_act-in-Unary.new.graph k e)) c.deref-in-Unary-2.ensures c.add_operand-in-Unary.ensures in
    subst (λ x. IfOk r (λ e. Adds (expression x c.args.target c.args.temporary) c.args.next c.args.graph.now k e)) (sym tree)
    (unary_added c.args.target c.args.temporary k c.in-Unary.op a r at c.in_ok-last-in-Unary.ensures first)

pub add_expression-returns-in_ok-second-in-Binary : goal.add_expression-returns-in_ok-second-in-Binary
add_expression-returns-in_ok-second-in-Binary t c =
    let a = expression_tree c.in-Binary.left.value in
    let b = expression_tree c.in-Binary.right.value in
    let n = c.args.temporary in
    let r = c.add_operand-in-Binary-2.result in
    let k = c.add_operand-in-Binary-2.new.graph in
    let tree : expression_tree c.args.expression.now ≡ T.Binary c.in-Binary.op a b = ap expression_tree c.in-Binary.is in
    let left : c.operand_register-in-Binary.result ≡ operand_register a n = c.operand_register-in-Binary.ensures ∙ ap (λ x. operand_register (expression_tree x) n) c.deref-in-Binary.ensures in
    let right : c.operand_register-in-Binary-2.result ≡ operand_register b (suc n) = c.operand_register-in-Binary-2.ensures ∙ (λ i. operand_register (expression_tree (c.deref-in-Binary-2.ensures i)) (add-one n i)) in
    let second =
    subst (λ m. Adds (operand b m) c.in_ok-last-in-Binary.last c.add_act-in-Binary.new.graph c.add_operand-in-Binary.new.graph c.in_ok-second-in-Binary.second) (add-one n)
    (subst (λ x. Adds (operand (expression_tree x) (n + 1)) c.in_ok-last-in-Binary.last c.add_act-in-Binary.new.graph c.add_operand-in-Binary.new.graph c.in_ok-second-in-Binary.second) c.deref-in-Binary-3.ensures c.in_ok-second-in-Binary.ensures) in
    let first = subst (λ x. IfOk r (λ e. Adds (operand (expression_tree x) n) c.in_ok-second-in-Binary.second c.add_operand-in-Binary.new.graph k e)) c.deref-in-Binary-4.ensures c.add_operand-in-Binary-2.ensures in
    subst (λ x. IfOk r (λ e. Adds (expression x c.args.target n) c.args.next c.args.graph.now k e)) (sym tree)
    (binary_added c.args.target n k c.in-Binary.op a b r left right c.in_ok-last-in-Binary.ensures second first)

pub add_expression-returns-in_ok-branch-in-Choice : goal.add_expression-returns-in_ok-branch-in-Choice
add_expression-returns-in_ok-branch-in-Choice t c =
    let o = expression_tree c.in-Choice.condition.value in
    let a = expression_tree c.in-Choice.then.value in
    let b = expression_tree c.in-Choice.other.value in
    let n = c.args.temporary in
    let r = c.add_operand-in-Choice.result in
    let k = c.add_operand-in-Choice.new.graph in
    let tree : expression_tree c.args.expression.now ≡ T.Choice o a b = ap expression_tree c.in-Choice.is in
    let at : c.operand_register-in-Choice.result ≡ operand_register o n = c.operand_register-in-Choice.ensures ∙ ap (λ x. operand_register (expression_tree x) n) c.deref-in-Choice-3.ensures in
    let other = subst (λ x. Adds (expression (expression_tree x) c.args.target n) c.args.next c.args.graph.now c.add_expression.new.graph c.in_ok-other-in-Choice.other) c.deref-in-Choice.ensures c.in_ok-other-in-Choice.ensures in
    let taken = subst (λ x. Adds (expression (expression_tree x) c.args.target n) c.args.next c.add_expression.new.graph c.add_expression-in-Choice.new.graph c.in_ok-then-in-Choice.then) c.deref-in-Choice-2.ensures c.in_ok-then-in-Choice.ensures in
    let first = subst (λ x. IfOk r (λ e. Adds (operand (expression_tree x) n) c.in_ok-branch-in-Choice.branch c.add_branch.new.graph k e)) c.deref-in-Choice-4.ensures c.add_operand-in-Choice.ensures in
    subst (λ x. IfOk r (λ e. Adds (expression x c.args.target n) c.args.next c.args.graph.now k e)) (sym tree)
    (choice_added c.args.target n k o a b r at other taken c.in_ok-branch-in-Choice.ensures first)
