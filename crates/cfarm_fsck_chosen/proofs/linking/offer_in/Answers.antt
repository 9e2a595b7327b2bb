-- One record more.
use Rattle.std.proofs.Common.{◌≡◌, ◌∙◌, ℕ, List, Option, ap, take, arith}
use Rattle.cfarm_fsck_chosen.specs.Linking.{offer_after}
use Rattle.cfarm_fsck_chosen.proofs.LinkingLemmas.{offer_next}
use Rattle.cfarm_fsck_chosen.proofs.linking.offer_in.Goals as goal

pub loop-number-preserved : goal.loop-number-preserved
loop-number-preserved c =
    let rs = c.args.records.now in
    let n = c.loop-number.number in
    let r = c.index-records-number.result in
    c.offer_behind-found.ensures ∙ ap (λ (o : Option (List ℕ)). offer_after c.args.room o r) c.loop-number.invariant
    ∙ offer_next rs n r c.args.room (omega arith) c.index-records-number.is
