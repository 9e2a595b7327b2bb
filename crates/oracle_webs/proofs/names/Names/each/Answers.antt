-- Why the loop of `each` over `register` keeps the invariant.
use Rattle.std.proofs.Common.{arith}
use Rattle.std.proofs.lemmas.List.{length_push}
use Rattle.std.proofs.lemmas.List.Elements.{All-push}
use Rattle.rtl_acts.specs.Fits.{RegisterFits}
use Rattle.oracle_webs.proofs.names.Names.each.Goals as goal

pub loop-register-preserved : goal.loop-register-preserved
loop-register-preserved c =
    let made = c.loop-register.made.items in
    rw c.in_ok-push.ensures.items (record {
      count = omega (arith, length_push made c.used.result, c.loop-register.invariant.count);
      fit = All-push (RegisterFits 65536) made c.used.result c.loop-register.invariant.fit c.used.ensures;
    })
