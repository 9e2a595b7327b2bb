-- Why the loop of `locations_of` over `register` keeps the invariant.
use Rattle.std.proofs.Common.{arith}
use Rattle.std.proofs.lemmas.List.{length_push}
use Rattle.std.proofs.lemmas.List.Elements.{All-push}
use Rattle.locations.specs.Fits.{LocationFits}
use Rattle.oracle_graphs.proofs.parameters.locations_of.Goals as goal

pub loop-register-preserved : goal.loop-register-preserved
loop-register-preserved c =
    let made = c.loop-register.made.items in
    rw c.in_ok-push.ensures.items (record {
      count = omega (arith, length_push made c.location_of.result, c.loop-register.invariant.count);
      fit = All-push (LocationFits c.args.assignment.now.slots) made c.location_of.result c.loop-register.invariant.fit c.location_of.ensures;
    })
