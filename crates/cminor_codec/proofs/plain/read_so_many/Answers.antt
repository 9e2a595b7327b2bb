-- Why `read_so_many` meets its contract.
use Rattle.std.proofs.Common.{map}
use Rattle.std.proofs.lemmas.List.{map-append}
use Rattle.std.proofs.lemmas.Result.{err_from_is_err_and}
use Rattle.lang_base.proofs.Loops.{goes_on, stops}
use Rattle.cminor_syntax.specs.Views.{expression_tree}
use Rattle.cminor_form.specs.Reading.{expression}
use Rattle.cminor_codec.proofs.plain.read_so_many.Goals as goal

pub returns-in_err-expression : goal.returns-in_err-expression
returns-in_err-expression c =
    let p = err_from_is_err_and c.from_residual.result c.from_residual.ensures.1 in
    rw (p.1, p.2) (λ memory. stops (λ before. expression c.args.fuel c.args.variables) c.args.count _ c.in_err-expression.field-0.0 (map expression_tree c.loop.expressions.items) c.loop.counter c.loop.bytes.now c.loop-test.true c.loop.invariant (c.in_err-expression.ensures memory))

pub loop-preserved : goal.loop-preserved
loop-preserved c =
    rw (c.in_ok-push.ensures.items, map-append)
    (goes_on (λ before. expression c.args.fuel c.args.variables) c.args.count _ (map expression_tree c.loop.expressions.items) c.loop.counter c.loop.bytes.now (expression_tree c.in_ok-expression.expression) c.read_expression.new.bytes.now c.loop-test.true c.loop.invariant c.in_ok-expression.ensures)
