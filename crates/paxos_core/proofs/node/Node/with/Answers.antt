-- Why what `with` leaves is in order.
use Rattle.std.proofs.Common.{None, rules}
use Rattle.paxos_core.proofs.LearnsLemmas.{nothing_to_learn}
use Rattle.paxos_core.proofs.node.Node.with.Goals as goal

pub invariant_of-result : goal.invariant_of-result
invariant_of-result c = (c.requires, search rules, nothing_to_learn c.args.quorums (search rules) None)
