-- Why `read_function` meets its clauses `refused` and `behind`.
use Rattle.std.proofs.Common.{◌∷◌}
use Rattle.std.proofs.lemmas.Result.{err_from_is_err_and}
use Rattle.cfarm_settle.proofs.ReadingLemmas.{no_longer_function}
use Rattle.cfarm_settle.proofs.settling.read_function.Goals as goal

-- Bytes stand behind the function.
pub returns-then-length-bytes-clause-refused : goal.returns-then-length-bytes-clause-refused
returns-then-length-bytes-clause-refused c _ f fits whole = no_longer_function c.in_ok-function.function f c.args.bytes.now c.in_ok-function.length c.in_ok-function.ensures.fits fits c.if-length-bytes.true c.in_ok-function.ensures.front whole

-- What is refused begins with no function.
pub returns-in_err-function-clause-behind : goal.returns-in_err-function-clause-behind
returns-in_err-function-clause-behind c =
    let p = err_from_is_err_and c.from_residual.result c.from_residual.ensures.1 in
    rw (p.1, p.2) (λ memory f first rest fits e. absurd (c.in_err-function.ensures.refused memory f (first ∷ rest) fits e))
