-- Why `open` meets its clauses `source` and `refused`.
use Rattle.std.proofs.Common.{◌≡◌, sym, subst}
use Rattle.farm_nodes.specs.Prepared.{IsSourceOf}
use Rattle.farm_nodes.specs.Refused.{AreRefused}
use Rattle.farm_nodes.proofs.farm.Farm.open.Goals as goal

pub returns-in-Ok-over-clause-source : goal.returns-in-Ok-over-clause-source
returns-in-Ok-over-clause-source g c =
    let made = c.in-Ok.ensures in
    subst (λ s. IsSourceOf c.args.text.now s) (sym c.in-Ok-over.ensures.source)
    (record {
      tree = made.accepted.0;
      accepted = made.accepted.1;
      program = made.accepted.2;
      translated = made.translated;
      keeps = made.keeps;
      names = made.names;
      count = made.count;
      digest = made.digest;
    })

pub returns-in-Err-over-clause-refused : goal.returns-in-Err-over-clause-refused
returns-in-Err-over-clause-refused g c = λ fault same.
    let made = c.in-Ok.ensures in
    let is : c.in-Err-over.fault ≡ fault = cc in
    subst (λ f. AreRefused g.P.Disk g.P.Pair c.args.quorums c.args.text.now c.args.pairs.items c.in-Err-over.pairs.items f) is
    (record {
      source = c.in-Ok.source;
      is = record {
        tree = made.accepted.0;
        accepted = made.accepted.1;
        program = made.accepted.2;
        translated = made.translated;
        keeps = made.keeps;
        names = made.names;
        count = made.count;
        digest = made.digest;
      };
      over = c.in-Err-over.ensures.refused;
    })
