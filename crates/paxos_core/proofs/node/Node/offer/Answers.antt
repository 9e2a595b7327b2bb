-- Why `offer` meets its clause `step`.
use Rattle.std.proofs.Common.{rules}
use Rattle.paxos_core_late_offers.proofs.TakesLemmas.{offer_step}
use Rattle.paxos_core.proofs.node.Node.offer.Goals as goal

pub returns-clause-step : goal.returns-clause-step
returns-clause-step c = offer_step c.args.self.now _ (search rules)
