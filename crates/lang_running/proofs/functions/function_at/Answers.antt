use Rattle.std.proofs.Common.{refl}
use Rattle.lang_running.proofs.Decoded.{got}
use Rattle.lang_running.proofs.functions.function_at.Goals as goal

pub returns-in-Some : goal.returns-in-Some
returns-in-Some g c =
    let at = c.in-Some.ensures.lookup in
    record { named = c.in-Some.named.now; is = got c.args.functions.now c.args.number c.in-Some.named.now at.3.0 at.1; same = refl }
