-- Why `check_listed` meets its clause `err`.
use Rattle.std.proofs.lemmas.Result.{err_from_is_err_and}
use Rattle.c_checker_declarations.proofs.Listed.{stops}
use Rattle.c_checker_declarations.proofs.initial.check_listed.Goals as goal

pub returns-in_err-check_initial-clause-err : goal.returns-in_err-check_initial-clause-err
returns-in_err-check_initial-clause-err c =
    let p = err_from_is_err_and c.from_residual.result c.from_residual.ensures.1 in
    rw (p.1, p.2) (stops c.args.scope.now c.args.initials.now c.in_err-check_initial.field-0.0 c.loop-initial.words.items c.loop-initial.initial-index c.initial-item.result c.loop-initial-test.true c.initial-item.is c.loop-initial.invariant c.in_err-check_initial.ensures.err)
