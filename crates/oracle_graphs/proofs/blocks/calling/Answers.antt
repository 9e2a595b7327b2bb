-- Why `calling` meets its contract.
use Rattle.std.proofs.Common.{◌≤◌, length, ap, arith}
use Rattle.std.proofs.lemmas.List.Elements.{recursion_from_All, All-same}
use Rattle.locations.specs.Fits.{LocationFits}
use Rattle.oracle_graphs.proofs.blocks.calling.Goals as goal

pub returns : goal.returns
returns c = λ registers nodes fits successor.
    let P = LocationFits c.args.assignment.now.slots in
    let few : length c.from_vec.result ≤ 255 = omega (arith, ap length c.from_vec.ensures, fits.few, c.in_ok-arguments.ensures.count) in
    record {
      before = c.in_ok-before.ensures _ tt;
      body = (
        record {
          function = fits.function;
          few = few;
          arguments = recursion_from_All P c.from_vec.result (All-same P c.from_vec.result _ c.from_vec.ensures c.in_ok-arguments.ensures.fit);
          target = c.location_of_any.ensures;
        },
        c.in_ok-after.ensures _ tt,
        successor,
      );
    }
