-- Why what `promise` leaves is in order.
use Rattle.std.proofs.Common.{◌∙◌}
use Rattle.std.proofs.Math.ListN.{length-set}
use Rattle.paxos_reference.proofs.FromOne.{pushed_proposals}
use Rattle.paxos_reference.proofs.world.World.promise.Goals as goal

pub invariant_of-self : goal.invariant_of-self
invariant_of-self c =
    let w = c.args.self.now in
    record {
      sized = w.sized;
      begun_from_one = w.begun_from_one;
      proposed_from_one = pushed_proposals c.push_front.result w.sent.items _ _ c.push_front.ensures.ok c.push_front.ensures.err (λ b v e. cc) w.proposed_from_one;
    }

pub invariant_of-self-2 : goal.invariant_of-self-2
invariant_of-self-2 c =
    let w = c.args.self.now in
    record {
      sized = length-set w.nodes.items _ _ ∙ w.sized;
      begun_from_one = w.begun_from_one;
      proposed_from_one = pushed_proposals c.push_front.result w.sent.items _ _ c.push_front.ensures.ok c.push_front.ensures.err (λ b v e. cc) w.proposed_from_one;
    }
