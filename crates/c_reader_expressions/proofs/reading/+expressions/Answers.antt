-- Why `+expressions` meets what its body asks for.
use Rattle.std.proofs.Common.{◌≡◌, ◌-◌, ◌∙◌, arith}
use Rattle.std.proofs.lemmas.Result.{err_from_is_err_and, IfOk-weaker, IfErr-weaker}
use Rattle.c_syntax.specs.Views.{expression_tree}
use Rattle.c_reader_expression_laws.specs.Reading.{chain, expression_at}
use Rattle.c_reader_expression_laws.proofs.Laws.{reads}
use Rattle.c_reader_expressions.proofs.Steps.{behind_operand, goes_on, is_refused}
use Rattle.c_reader_expressions.proofs.reading.+expressions.Goals as goal

pub chain-returns-in_err-whole-in-Operator-clause-err : goal.chain-returns-in_err-whole-in-Operator-clause-err
chain-returns-in_err-whole-in-Operator-clause-err t c =
    let p = err_from_is_err_and c.from_residual.result c.from_residual.ensures.1 in
    rw (p.1, p.2) (λ memory. c.loop.invariant ∙ is_refused (expression_at c.args.below) c.args.below c.args.level c.args.below c.loop.counter (expression_tree c.loop.left.expression) c.loop.rest.now c.in-Operator.operator c.in_err-whole-in-Operator.field-0.0 c.loop-test.true c.in-Operator.ensures (c.in_err-whole-in-Operator.ensures.err memory))

pub chain-loop-preserved : goal.chain-loop-preserved
chain-loop-preserved t c =
    c.loop.invariant ∙ goes_on (expression_at c.args.below) c.args.below c.args.level c.args.below c.loop.counter (expression_tree c.loop.left.expression) c.loop.rest.now c.in-Operator.operator (expression_tree c.in_ok-whole-in-Operator.whole.expression) c.in_ok-whole-in-Operator.behind.now c.loop-test.true c.in-Operator.ensures c.in_ok-whole-in-Operator.ensures.ok

pub read_at-returns-clause-ok : goal.read_at-returns-clause-ok
read_at-returns-clause-ok t c =
    let e = behind_operand c.args.fuel c.args.level c.args.tokens.now (expression_tree c.in_ok-left.left.expression) c.in_ok-left.rest.now (omega arith) c.in_ok-left.ensures.ok in
    IfOk-weaker c.chain.result _ _ (λ r h. e ∙ h) c.chain.ensures.ok

pub read_at-returns-clause-low : goal.read_at-returns-clause-low
read_at-returns-clause-low t c =
    let e = behind_operand c.args.fuel c.args.level c.args.tokens.now (expression_tree c.in_ok-left.left.expression) c.in_ok-left.rest.now (omega arith) c.in_ok-left.ensures.ok in
    IfOk-weaker c.chain.result _ _ (λ r h.
    let low = (reads c.args.fuel c.args.level c.args.tokens.now (expression_tree r.0.expression, r.1.now) (e ∙ h)).low in
    let measured = r.0.measured in
    omega arith) c.chain.ensures.ok

pub read_at-returns-clause-err : goal.read_at-returns-clause-err
read_at-returns-clause-err t c =
    let e = behind_operand c.args.fuel c.args.level c.args.tokens.now (expression_tree c.in_ok-left.left.expression) c.in_ok-left.rest.now (omega arith) c.in_ok-left.ensures.ok in
    IfErr-weaker c.chain.result _ _ (λ fault h memory. e ∙ h memory) c.chain.ensures.err
