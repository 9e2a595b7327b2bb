-- Why `on` meets its clause `step`.
use Rattle.std.proofs.Common.{rules}
use Rattle.paxos_core_late_offers.proofs.TakesLemmas.{on_step}
use Rattle.paxos_core.proofs.node.Node.on.Goals as goal

pub returns-in-Prepare-clause-step : goal.returns-in-Prepare-clause-step
returns-in-Prepare-clause-step c = on_step c.args.self.now _ c.args.message.now _ (search rules) (search rules)

pub returns-in-Propose-clause-step : goal.returns-in-Propose-clause-step
returns-in-Propose-clause-step c = on_step c.args.self.now _ c.args.message.now _ (search rules) (search rules)

pub returns-in-Promise-clause-step : goal.returns-in-Promise-clause-step
returns-in-Promise-clause-step c = on_step c.args.self.now _ c.args.message.now _ (search rules) (search rules)

pub returns-in-Accepted-clause-step : goal.returns-in-Accepted-clause-step
returns-in-Accepted-clause-step c = on_step c.args.self.now _ c.args.message.now _ (search rules) (search rules)
