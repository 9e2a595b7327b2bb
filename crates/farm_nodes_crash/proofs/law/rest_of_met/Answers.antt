-- Why `rest_of_met` meets its clauses `rest` and `neighbours`.
use Rattle.farm_nodes_crash.proofs.Meeting.{neighbours_hear_all, nodes_that_heard_rest}
use Rattle.farm_nodes_crash.proofs.law.rest_of_met.Goals as goal

pub returns-clause-rest : goal.returns-clause-rest
returns-clause-rest c functions = nodes_that_heard_rest c.args.quorums functions

pub returns-clause-neighbours : goal.returns-clause-neighbours
returns-clause-neighbours c functions = neighbours_hear_all c.args.quorums functions
