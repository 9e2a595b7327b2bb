-- Why `exec` meets its clauses `refused`, `ran` and `beginning`.
use Rattle.std.proofs.Common.{◌≡◌}
use Rattle.std.proofs.KnownBytes.{Appends-kept}
use Rattle.std.proofs.lemmas.Result.{err_from_is_err_and}
use Rattle.lang_base.proofs.Beginnings.{IsBeginningOf-refl}
use Rattle.linear_language.specs.Meaning.{run}
use Rattle.cfarm_run.proofs.executing.exec.Goals as goal

pub returns-in_err-program-clause-refused : goal.returns-in_err-program-clause-refused
returns-in_err-program-clause-refused g c =
    let p = err_from_is_err_and c.from_residual.result c.from_residual.ensures.1 in
    rw (p.1, p.2) (c.in_err-program.ensures.refused, c.in_err-program.ensures.behind)

pub returns-in-Ok-clause-ran : goal.returns-in-Ok-clause-ran
returns-in-Ok-clause-ran g c =
    let ran = c.in_ok-shown.ensures in
    (c.in_ok-program.program, c.in_ok-program.ensures.ok, (ran.0, Appends-kept _ _ _ _ ran.1 c.flush.ensures.bytes))

-- The output could not be flushed: all of it is a beginning of it.
pub returns-clause-beginning : goal.returns-clause-beginning
returns-clause-beginning g c =
    let p = c.in_ok-program.program in
    (p, c.in_ok-program.ensures.ok, ((run p c.args.limit).output, IsBeginningOf-refl _, Appends-kept _ _ _ _ c.in_ok-shown.ensures.1 c.flush.ensures.bytes))
