-- Why `note_vote` meets its clause `step`.
use Rattle.std.proofs.Common.{None, refl, arith, rules}
use Rattle.paxos_core_world.specs.declared.msg.Msg.TheVariants.{Accepted}
use Rattle.paxos_core_late_offers.proofs.TakesLemmas.{on_step}
use Rattle.paxos_core.proofs.LearnsLemmas.{learns_no_more}
use Rattle.paxos_core.proofs.node.Node.note_vote.Goals as goal

pub returns-then-not-sound-clause-step : goal.returns-then-not-sound-clause-step
returns-then-not-sound-clause-step c = on_step c.args.self.now _ (Accepted c.args.from c.args.vote.ballot c.args.vote.value) None (search rules) refl

pub returns-then-is_none-clause-step : goal.returns-then-is_none-clause-step
returns-then-is_none-clause-step c = on_step c.args.self.now _ (Accepted c.args.from c.args.vote.ballot c.args.vote.value) None (grind arith) refl

pub returns-else-quorum-clause-step : goal.returns-else-quorum-clause-step
returns-else-quorum-clause-step c = on_step c.args.self.now _ (Accepted c.args.from c.args.vote.ballot c.args.vote.value) None (grind arith) refl

pub invariant_of-self-else-quorum : goal.invariant_of-self-else-quorum
invariant_of-self-else-quorum c = (
  c.self.invariant.0,
  c.self.invariant.1,
  learns_no_more c.self.inside.quorums c.self.inside.votes c.self.inside.learned c.from-2.result c.args.vote c.self.invariant.2 (search rules),
)
