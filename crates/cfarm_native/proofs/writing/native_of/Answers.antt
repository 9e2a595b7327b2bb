-- Why `native_of` meets its clause `refused`.
use Rattle.std.proofs.lemmas.Result.{err_from_is_err_and}
use Rattle.cfarm_native.proofs.writing.native_of.Goals as goal

pub returns-in_err-program-clause-refused : goal.returns-in_err-program-clause-refused
returns-in_err-program-clause-refused c =
    let p = err_from_is_err_and c.from_residual.result c.from_residual.ensures.1 in
    rw (p.1, p.2) (c.in_err-program.ensures.refused, c.in_err-program.ensures.behind)
