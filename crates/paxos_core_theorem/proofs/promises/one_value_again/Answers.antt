-- Why `one_value_again` meets its clauses `settled`, `goes_on` and `learned`.
use Rattle.paxos_core_theorem.proofs.Reopens.{reopenings_go_on, reopenings_learn_as_before}
use Rattle.paxos_core_theorem.proofs.Theorem.{runs_stay_settled}
use Rattle.paxos_core_theorem.proofs.promises.one_value_again.Goals as goal

pub returns-clause-settled : goal.returns-clause-settled
returns-clause-settled c = runs_stay_settled

pub returns-clause-goes_on : goal.returns-clause-goes_on
returns-clause-goes_on c = reopenings_go_on

pub returns-clause-learned : goal.returns-clause-learned
returns-clause-learned c = reopenings_learn_as_before
