-- Both are there.
use Rattle.std.proofs.Common.{subst}
use Rattle.std.specs.Prelude.{IfOk}
use Rattle.cfarm_verify_reading.specs.Lowered.{AreLowered}
use Rattle.cfarm_verify_reading.proofs.Pieces.{behind}
use Rattle.cfarm_verify_reading.proofs.parts.joined.Goals as goal

pub returns-in-Ok-append : goal.returns-in-Ok-append
returns-in-Ok-append c = λ spare xs ys one other.
    let front = subst (λ r. IfOk r (λ ss. AreLowered spare xs ss.items)) c.in-Ok.is one in
    let back = subst (λ r. IfOk r (λ ss. AreLowered spare ys ss.items)) c.in-Ok-second.is other in
    behind spare xs ys c.in-Ok.front.items c.in-Ok-second.back.items c.append.new.self.items front back c.in-Ok-append.ensures.items
