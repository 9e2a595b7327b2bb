-- An offer that goes on, or does not.
use Rattle.std.proofs.Common.{Err, refl, sym, subst}
use Rattle.bundle_offers.specs.Standing.{IsStep}
use Rattle.bundle_offers.proofs.Standings.{step_of}
use Rattle.bundle_offers.proofs.judging.chained.Goals as goal

pub returns-in-Ok : goal.returns-in-Ok
returns-in-Ok g c = λ is. step_of c.args.at g.P.Pass.accepts g.S.Reasons.tells c.args.before.now c.args.parts.now c.args.told c.in-Ok.ensures.chained is

pub returns-in-Err : goal.returns-in-Err
returns-in-Err g c = λ is.
    subst (λ e. IsStep c.args.at g.P.Pass.accepts g.S.Reasons.tells c.args.before.now c.args.parts.now (Err e)) (sym c.in-Err.ensures.refused.0) (refl, c.in-Err.ensures.refused.1)
