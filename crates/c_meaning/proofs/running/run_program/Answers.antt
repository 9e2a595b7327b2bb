-- Where a growth is refused at the start, nothing is written.
use Rattle.std.proofs.Common.{[], refl}
use Rattle.std.proofs.KnownBytes.{Appends-nil}
use Rattle.std.proofs.lemmas.Result.{err_from_is_err_and}
use Rattle.c_meaning.proofs.running.run_program.Goals as goal

pub returns-in_err-machine-in-Some : goal.returns-in_err-machine-in-Some
returns-in_err-machine-in-Some g c =
    let p = err_from_is_err_and c.from_residual.result c.from_residual.ensures.1 in
    rw p.1 ([], (_, refl), Appends-nil _)
