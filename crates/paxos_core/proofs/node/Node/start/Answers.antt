-- Why `start` meets its clauses `least`, `step` and `none_left`.
use Rattle.std.proofs.Common.{rules}
use Rattle.paxos_core_late_offers.proofs.TakesLemmas.{ballots_spent, next_ballot_is, start_step}
use Rattle.paxos_core.proofs.node.Node.start.Goals as goal

pub returns-in_default-clause-least : goal.returns-in_default-clause-least
returns-in_default-clause-least c = next_ballot_is c.args.self.now (search rules)

pub returns-clause-least : goal.returns-clause-least
returns-clause-least c = next_ballot_is c.args.self.now (search rules)

pub returns-clause-step : goal.returns-clause-step
returns-clause-step c = start_step c.args.self.now _ _ (search rules) (search rules) (search rules)

pub returns-in_default-clause-none_left : goal.returns-in_default-clause-none_left
returns-in_default-clause-none_left c = ballots_spent c.args.self.now (search rules) (search rules)
