-- Why `propose` meets its clause `step`.
use Rattle.std.proofs.Common.{rules}
use Rattle.paxos_core_late_offers.proofs.TakesLemmas.{propose_step}
use Rattle.paxos_core.proofs.node.Node.propose.Goals as goal

pub returns-clause-step : goal.returns-clause-step
returns-clause-step c = propose_step c.args.self.now _ _ (search rules) (search rules)
