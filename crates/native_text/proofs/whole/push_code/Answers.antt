-- Why `push_code` meets its contract where memory runs out: what is there so far begins with what was there.
use Rattle.std.proofs.Common.{sym}
use Rattle.std.proofs.lemmas.Result.{err_from_is_err_and}
use Rattle.lang_base.proofs.Beginnings.{IsBeginningOf-trans}
use Rattle.native_text.proofs.whole.push_code.Goals as goal

pub returns-in_err-push_lines : goal.returns-in_err-push_lines
returns-in_err-push_lines c =
    let p = err_from_is_err_and c.from_residual.result c.from_residual.ensures.1 in
    rw p.1 (IsBeginningOf-trans _ _ _ (_, sym c.loop-instruction.invariant) c.in_err-push_lines.ensures)
