-- A first offer that goes on from the function, or from another one.
use Rattle.std.proofs.Common.{Err, sym, subst}
use Rattle.bundle_reading.specs.Read.{offers_of}
use Rattle.bundle_offers.specs.Standing.{Judged}
use Rattle.bundle_offers.proofs.Standings.{judged_from}
use Rattle.bundle_offers.proofs.judging.judge_from.Goals as goal

pub returns-in-Ok : goal.returns-in-Ok
returns-in-Ok c = λ is. judged_from c.args.function.now c.args.four.now c.args.alone c.in-Ok.ensures.chained is

pub returns-in-Err : goal.returns-in-Err
returns-in-Err c = λ is.
    subst (λ e. Judged c.args.function.now (offers_of c.args.four.now) (Err e)) (sym c.in-Err.ensures.refused.0) (tt, c.in-Err.ensures.refused.1)
