-- Why `+statements` meets what its body asks for.
use Rattle.std.proofs.Common.{map}
use Rattle.std.proofs.lemmas.List.{map-append}
use Rattle.std.proofs.lemmas.Result.{err_from_is_err_and}
use Rattle.lang_base.proofs.Loops.{goes_on, stops}
use Rattle.cminor_syntax.specs.Views.{statement_tree}
use Rattle.cminor_form.specs.Reading.{statement}
use Rattle.cminor_codec.proofs.statements.+statements.Goals as goal

pub read_so_many-returns-in_err-statement : goal.read_so_many-returns-in_err-statement
read_so_many-returns-in_err-statement t c =
    let p = err_from_is_err_and c.from_residual.result c.from_residual.ensures.1 in
    rw (p.1, p.2) (λ memory. stops (λ before. statement c.args.below c.args.variables) c.args.count _ c.in_err-statement.field-0.0 (map statement_tree c.loop.statements.items) c.loop.counter c.loop.bytes.now c.loop-test.true c.loop.invariant (c.in_err-statement.ensures memory))

pub read_so_many-loop-preserved : goal.read_so_many-loop-preserved
read_so_many-loop-preserved t c =
    rw (c.in_ok-push.ensures.items, map-append)
    (goes_on (λ before. statement c.args.below c.args.variables) c.args.count _ (map statement_tree c.loop.statements.items) c.loop.counter c.loop.bytes.now (statement_tree c.in_ok-statement.statement) c.read_statement.new.bytes.now c.loop-test.true c.loop.invariant c.in_ok-statement.ensures)
