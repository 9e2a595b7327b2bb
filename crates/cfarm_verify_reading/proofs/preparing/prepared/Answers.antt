-- Why `prepared` meets its contract.
use Rattle.std.proofs.Common.{sym, subst}
use Rattle.std.specs.Prelude.{IfOk, IfErr}
use Rattle.farm_nodes_source.specs.Refused.{IsOnlyTooLarge, IsUnprepared}
use Rattle.cfarm_verify_reading.specs.Found.{IsSourceOf}
use Rattle.cfarm_verify_reading.proofs.Digests.{is_refused, is_source}
use Rattle.cfarm_verify_reading.proofs.preparing.prepared.Goals as goal

pub returns : goal.returns
returns g c =
    let text = c.args.text.now in
    let found = c.join-found.result in
    let begun = c.join-found.ensures.second in
    let same = sym c.with_digest.ensures in
    record {
      source = subst (λ r. IfOk r (IsSourceOf text)) same (is_source text found.0 found.1 c.join-found.ensures.first begun.0);
      refused = subst (λ r. IfErr r (IsUnprepared text)) same (is_refused (IsUnprepared text) found.0 found.1 begun.1.0);
      only = λ u is. subst (λ r. IfErr r (IsOnlyTooLarge u)) same (is_refused (IsOnlyTooLarge u) found.0 found.1 (begun.1.1 u is));
    }
