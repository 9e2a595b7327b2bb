-- Of four answers the first fault is that of the offers.
use Rattle.std.proofs.Common.{sym, subst}
use Rattle.bundle_reading.specs.Read.{offers_of}
use Rattle.bundle_offers.specs.Standing.{Judged}
use Rattle.bundle_offers.proofs.Standings.{judged_of}
use Rattle.cfarm_library_verify.proofs.judging.judge.Goals as goal

pub returns : goal.returns
returns c =
    let f = c.args.function.now in
    let o = offers_of c.args.four.now in
    subst (λ told. Judged f o told) (sym c.in_order.ensures)
    (judged_of f o c.step-first.result c.step-second.result c.step-third.result c.step-fourth.result c.step-first.ensures c.step-second.ensures c.step-third.ensures c.step-fourth.ensures)
