-- Why `has_noted` meets its clause `same`.
use Rattle.std.proofs.Common.{◌≡◌, subst, rules}
use Rattle.paxos_core_late_offers.specs.Learner.{after_vote}
use Rattle.paxos_core_late_offers.specs.NodeState.{NodeState}
use Rattle.paxos_core.proofs.LearnsLemmas.{noted_again}
use Rattle.paxos_core.proofs.node.Node.has_noted.Goals as goal

pub returns-then-from-nodes-clause-same : goal.returns-then-from-nodes-clause-same
returns-then-from-nodes-clause-same c = λ h.
    subst (λ (s : NodeState). after_vote s c.args.from c.args.vote ≡ s) c.self.view_is
    (noted_again _ c.args.from c.args.vote c.self.invariant.2 (search rules))
