-- What the two parts are lowered to.
use Rattle.std.proofs.Common.{sym, subst}
use Rattle.std.specs.Prelude.{IfOk}
use Rattle.cfarm_verify_reading.specs.Lowered.{AreLowered}
use Rattle.cfarm_verify_reading.proofs.parts.lower_halves.Goals as goal

pub returns : goal.returns
returns g c =
    let spare = c.args.spare in
    let split = c.split_at in
    subst (λ l. IfOk c.joined.result (λ ss. AreLowered spare l ss.items)) (sym split.ensures.by_index.0)
    (c.joined.ensures spare split.result.0.now split.result.1.now c.join-first.ensures.first c.join-first.ensures.second)
