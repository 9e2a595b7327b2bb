-- Why `take_all` meets its clause `err`, and its loop over `declaration` keeps the invariant.
use Rattle.std.proofs.lemmas.Result.{err_from_is_err_and}
use Rattle.c_checker.proofs.Walking.{taken_on, told_on}
use Rattle.c_checker.proofs.unit.take_all.Goals as goal

pub returns-in_err-take-clause-err : goal.returns-in_err-take-clause-err
returns-in_err-take-clause-err c =
    let p = err_from_is_err_and c.from_residual.result c.from_residual.ensures.1 in
    rw (p.1, p.2) (told_on c.args.bodies c.args.declarations.now c.loop-declaration.progress c.loop-declaration.declaration-index c.declaration-item.result c.loop-declaration-test.true c.declaration-item.is c.loop-declaration.invariant c.in_err-take.field-0.0 c.in_err-take.ensures.err)

pub loop-declaration-preserved : goal.loop-declaration-preserved
loop-declaration-preserved c =
    taken_on c.args.bodies c.args.declarations.now c.loop-declaration.progress c.loop-declaration.declaration-index c.declaration-item.result c.loop-declaration-test.true c.declaration-item.is c.loop-declaration.invariant c.take.new.progress
    c.in_ok-take.ensures.ok c.in_ok-take.ensures.file c.in_ok-take.ensures.bodies c.in_ok-take.ensures.globals c.in_ok-take.ensures.functions c.in_ok-take.ensures.cells
