-- Why what `start` leaves is in order.
use Rattle.std.proofs.Common.{◌∙◌}
use Rattle.std.proofs.Math.ListN.{length-set}
use Rattle.paxos_reference.proofs.FromOne.{pushed_ballots, pushed_proposals, removed_ballots}
use Rattle.paxos_reference.proofs.world.World.start.Goals as goal

pub invariant_of-self : goal.invariant_of-self
invariant_of-self c =
    let w = c.args.self.now in
    record {
      sized = w.sized;
      begun_from_one = pushed_ballots c.push_front.result w.begun.items _ c.args.ballot c.push_front.ensures.ok c.push_front.ensures.err c.requires.1.first w.begun_from_one;
      proposed_from_one = w.proposed_from_one;
    }

pub invariant_of-self-in-Err : goal.invariant_of-self-in-Err
invariant_of-self-in-Err c =
    let w = c.args.self.now in
    record {
      sized = w.sized;
      begun_from_one = removed_ballots w.begun.items _ _ c.args.ballot c.in_ok-push_front.ensures.ok c.remove-ballot.ensures.items w.begun_from_one;
      proposed_from_one = pushed_proposals c.push_front-2.result w.sent.items _ _ c.push_front-2.ensures.ok c.push_front-2.ensures.err (λ b v e. cc) w.proposed_from_one;
    }

pub invariant_of-self-2 : goal.invariant_of-self-2
invariant_of-self-2 c =
    let w = c.args.self.now in
    record {
      sized = length-set w.nodes.items _ _ ∙ w.sized;
      begun_from_one = pushed_ballots c.push_front.result w.begun.items _ c.args.ballot c.push_front.ensures.ok c.push_front.ensures.err c.requires.1.first w.begun_from_one;
      proposed_from_one = pushed_proposals c.push_front-2.result w.sent.items _ _ c.push_front-2.ensures.ok c.push_front-2.ensures.err (λ b v e. cc) w.proposed_from_one;
    }
