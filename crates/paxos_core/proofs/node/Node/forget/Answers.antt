-- Why `forget` meets its clause `step`.
use Rattle.std.proofs.Common.{rules}
use Rattle.paxos_core_late_offers.proofs.TakesLemmas.{forget_step}
use Rattle.paxos_core.proofs.node.Node.forget.Goals as goal

pub returns-clause-step : goal.returns-clause-step
returns-clause-step c = forget_step c.args.self.now _ (search rules)
