-- Why `interpret` meets its clauses `beginning` and `ran`.
use Rattle.std.proofs.Common.{◌≡◌, Ok, Err, subst}
use Rattle.std.proofs.KnownBytes.{Appends-kept}
use Rattle.std.proofs.lemmas.Result.{err_from_is_err_and}
use Rattle.lang_base.proofs.Beginnings.{IsBeginningOf-refl}
use Rattle.c_checker_rules.specs.Units.{program_of}
use Rattle.lang_helpers.specs.Written.{Wrote}
use Rattle.c_program.specs.Meaning.{crun}
use Rattle.cfarm_run.proofs.interpreting.interpret.Goals as goal

pub returns-in_err-shown-clause-beginning : goal.returns-in_err-shown-clause-beginning
returns-in_err-shown-clause-beginning g c =
    let p = err_from_is_err_and c.from_residual-in_err-shown.result c.from_residual-in_err-shown.ensures.1 in
    let a = c.in_ok-program.ensures.accepted in
    rw (p.1, p.2) (a.0, a.1, subst (λ q. Wrote (crun q c.args.depth) (Err c.in_err-shown.field-0.0) (g.W.Write.contents c.args.out.now.taker) (g.W.Write.contents c.run.new.out.taker)) a.2 c.in_err-shown.ensures)

pub returns-in-Ok-clause-ran : goal.returns-in-Ok-clause-ran
returns-in-Ok-clause-ran g c =
    let a = c.in_ok-program.ensures.accepted in
    let ran = subst (λ q. Wrote (crun q c.args.depth) (Ok c.in_ok-shown.shown) (g.W.Write.contents c.args.out.now.taker) (g.W.Write.contents c.run.new.out.taker)) a.2 c.in_ok-shown.ensures in
    (a.0, a.1, (ran.0, Appends-kept _ _ _ _ ran.1 c.flush.ensures.bytes))

-- The output could not be flushed: all of it is a beginning of it.
pub returns-clause-beginning : goal.returns-clause-beginning
returns-clause-beginning g c =
    let a = c.in_ok-program.ensures.accepted in
    let ran = subst (λ q. Wrote (crun q c.args.depth) (Ok c.in_ok-shown.shown) (g.W.Write.contents c.args.out.now.taker) (g.W.Write.contents c.run.new.out.taker)) a.2 c.in_ok-shown.ensures in
    (a.0, a.1, ((crun (program_of a.0) c.args.depth).output, IsBeginningOf-refl _, Appends-kept _ _ _ _ ran.1 c.flush.ensures.bytes))
