-- Why `push_functions` meets its contract.
use Rattle.std.proofs.lemmas.Result.{err_from_is_err_and}
use Rattle.lang_base.proofs.Beginnings.{IsBeginningOf-front}
use Rattle.lang.proofs.writing.push_functions.Goals as goal

pub returns-in_err-push_named : goal.returns-in_err-push_named
returns-in_err-push_named g c =
    let p = err_from_is_err_and c.from_residual.result c.from_residual.ensures.1 in
    rw p.1 (IsBeginningOf-front c.args.out.now.items _ c.loop-function.out.items c.push_named.new.out.items c.loop-function.invariant c.in_err-push_named.ensures)
