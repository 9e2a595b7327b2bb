-- Where a growth is refused or the writer fails, a beginning of the output is written.
use Rattle.std.proofs.Common.{subst}
use Rattle.std.proofs.KnownBytes.{Appends-kept}
use Rattle.std.proofs.lemmas.Result.{err_from_is_err_and}
use Rattle.lang_base.specs.Behaviour.{Shows, IsBeginningOf}
use Rattle.c_meaning_machine.proofs.Printing.{prints_on}
use Rattle.c_meaning.proofs.running.run.Goals as goal

pub returns-in_err-next-in-Goes : goal.returns-in_err-next-in-Goes
returns-in_err-next-in-Goes g c =
    let i = c.loop-next.invariant in
    let fits = subst (λ (s : Shows). IsBeginningOf i.0 s.output) i.1.1 (prints_on c.loop-next.next c.loop-next.machine i.0) in
    let p = err_from_is_err_and c.from_residual.result c.from_residual.ensures.1 in
    rw p.1 (i.0, fits, i.1.0)

pub returns-in_err-print-in-Prints : goal.returns-in_err-print-in-Prints
returns-in_err-print-in-Prints g c =
    let i = c.loop-next.invariant in
    let fits = subst (λ (s : Shows). IsBeginningOf i.0 s.output) i.1.1 (prints_on c.loop-next.next c.loop-next.machine i.0) in
    let p = err_from_is_err_and c.from_residual-in_err-print-in-Prints.result c.from_residual-in_err-print-in-Prints.ensures.1 in
    rw p.1 (i.0, fits, Appends-kept _ _ _ i.0 i.1.0 c.in_err-print-in-Prints.ensures.failed)
