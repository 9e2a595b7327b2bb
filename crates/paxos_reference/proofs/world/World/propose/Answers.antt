-- Why what `propose` leaves is in order.
use Rattle.std.proofs.Common.{◌≡◌, ℕ, subst}
use Rattle.paxos_core_world.specs.World.{Has}
use Rattle.paxos_core_world.specs.declared.msg.Msg.{Msg}
use Rattle.paxos_core_world.specs.declared.msg.Msg.TheVariants.{Propose}
use Rattle.paxos_reference.proofs.FromOne.{pushed_proposals}
use Rattle.paxos_reference.proofs.world.World.propose.Goals as goal

ballot_of : (b v c u : ℕ) → ◌≡◌ {A = Msg} (Propose b v) (Propose c u) → c ≡ b
ballot_of b v c u e = cc

pub invariant_of-self : goal.invariant_of-self
invariant_of-self c =
    let w = c.args.self.now in
    record {
      sized = w.sized;
      begun_from_one = w.begun_from_one;
      proposed_from_one = pushed_proposals c.push_front.result w.sent.items _ (Propose c.args.ballot c.args.value) c.push_front.ensures.ok c.push_front.ensures.err (λ b v e. w.begun_from_one b (subst (λ x. Has x w.begun.items) (ballot_of b v c.args.ballot c.args.value e) c.requires.0)) w.proposed_from_one;
    }
