-- One node more is written, if it voted so.
use Rattle.std.proofs.Common.{◌≡◌, ◌++◌, ◌∙◌, ℕ, List, Option, ap, take, append_assoc, arith}
use Rattle.std.specs.String.{string_bytes}
use Rattle.paxos_core_world.specs.declared.vote.Vote.{Vote}
use Rattle.cfarm_fsck.specs.Lines.{voter, voters_from}
use Rattle.cfarm_fsck.proofs.Voters.{voters_next}
use Rattle.cfarm_fsck.proofs.lines.push_voters.Goals as goal

pub loop-number-preserved : goal.loop-number-preserved
loop-number-preserved c =
    let b = c.args.ballot in
    let n = c.loop-number.number in
    let ks = c.args.nodes.now in
    let k = c.index-nodes-number.result in
    let before = string_bytes c.args.text.now in
    c.in_ok-push_voter.ensures
    ∙ ap (λ (l : List ℕ). l ++ voter b n c.accepted.result) c.loop-number.invariant
    ∙ ap (λ (o : Option Vote). (before ++ voters_from b 0 (take n ks)) ++ voter b n o) c.accepted.ensures.value
    ∙ append_assoc before (voters_from b 0 (take n ks)) (voter b n k.accepted)
    ∙ ap (λ (l : List ℕ). before ++ l) (voters_next b ks n k (omega arith) c.index-nodes-number.is)
