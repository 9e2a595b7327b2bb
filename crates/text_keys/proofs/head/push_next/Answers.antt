-- Why `push_next` meets its contract.
use Rattle.std.proofs.Common.{sym}
use Rattle.std.proofs.lemmas.Result.{err_from_is_err_and}
use Rattle.lang_base.proofs.Beginnings.{IsBeginningOf-trans}
use Rattle.text_keys.proofs.head.push_next.Goals as goal

-- what is there so far begins with what was there
pub returns-in_err-push_another : goal.returns-in_err-push_another
returns-in_err-push_another g c =
    let p = err_from_is_err_and c.from_residual.result c.from_residual.ensures.1 in
    rw p.1 (IsBeginningOf-trans _ _ _ (_, sym c.loop-item.invariant) c.in_err-push_another.ensures)
