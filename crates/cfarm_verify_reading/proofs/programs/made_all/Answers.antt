-- What is made of each function, at its number.
use Rattle.std.proofs.Common.{◌≡◌, ◌<◌, length, subst, arith}
use Rattle.std.specs.Prelude.{IfSome}
use Rattle.cfarm_verify_reading.specs.Made.{IsMadeAt}
use Rattle.cfarm_verify_reading.proofs.Made.{all_made, got}
use Rattle.cfarm_verify_reading.proofs.programs.made_all.Goals as goal

pub gathered-requires : goal.gathered-requires
gathered-requires g c =
    let made = c.in-Ok.found in
    let count : length made.items ≡ length c.args.functions.now = omega (arith, c.in-Ok.ensures.len, made.ok.0) in
    all_made c.args.functions.now made.items count
    (λ i one e.
    let it = got made.items i one one e in
    let below : i < length c.args.functions.now = omega (arith, it.0, count) in
    subst (λ r. IfSome r (IsMadeAt c.args.functions.now i)) it.1 (c.in-Ok.ensures.each i one below).1.met)
