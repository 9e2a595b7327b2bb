-- Why what `opening` leaves is in order.
use Rattle.std.proofs.Common.{length, subst, rules}
use Rattle.paxos_core_world.specs.World.{Has, nodes_of}
use Rattle.paxos_core_world.specs.declared.msg.Msg.TheVariants.{Propose}
use Rattle.paxos_reference.proofs.OpeningLemmas.{none_shown}
use Rattle.paxos_reference.proofs.world.World.opening.Goals as goal

pub invariant_of-result : goal.invariant_of-result
invariant_of-result c =
    let parts = c.args.parts.now in
    record {
      sized = search rules;
      begun_from_one = search rules;
      proposed_from_one = λ b v h. absurd (none_shown (length parts) (nodes_of parts) b v (subst (λ l. Has (Propose b v) l) c.in_ok-shown.ensures h));
    }
