-- One node more is counted.
use Rattle.std.proofs.Common.{◌≡◌, ◌∙◌, suc, cond, Option, ap, arith}
use Rattle.paxos_core_world.specs.declared.vote.Vote.{Vote}
use Rattle.cfarm_fsck_chosen.specs.Chosen.{is_under}
use Rattle.cfarm_fsck_chosen.proofs.ChosenLemmas.{votes_next}
use Rattle.cfarm_fsck_chosen.proofs.chosen.votes_under.Goals as goal

pub loop-number-preserved : goal.loop-number-preserved
loop-number-preserved c =
    let i = c.loop-number.invariant in
    let k = c.index-nodes-number.result in
    let votes = c.loop-number.votes in
    let under : c.is_under.result ≡ is_under c.args.ballot k.accepted =
    c.is_under.ensures ∙ ap (λ (o : Option Vote). is_under c.args.ballot o) c.accepted.ensures.value in
    record {
      count = c.counted-votes.ensures.value ∙ ap (λ t. cond t (suc votes) votes) under
          ∙ votes_next c.args.ballot c.args.nodes.now c.loop-number.number k votes (omega arith) c.index-nodes-number.is i.count;
      most = omega (arith, c.counted-votes.ensures.most, i.most);
    }
