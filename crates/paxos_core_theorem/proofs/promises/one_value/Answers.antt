-- Why `one_value` meets its clauses `empty`, `chosen` and `learned`.
use Rattle.paxos_core_theorem.proofs.Theorem.{nothing_settled, runs_choose_one, runs_learn_one}
use Rattle.paxos_core_theorem.proofs.promises.one_value.Goals as goal

pub returns-clause-empty : goal.returns-clause-empty
returns-clause-empty c = nothing_settled

pub returns-clause-chosen : goal.returns-clause-chosen
returns-clause-chosen c = runs_choose_one

pub returns-clause-learned : goal.returns-clause-learned
returns-clause-learned c = runs_learn_one
