-- Why `one_code_again` meets its clauses `goes_on` and `linked`.
use Rattle.paxos_core_theorem.proofs.FarmReopens.{farm_reopenings_go_on, farm_reopenings_link_as_before}
use Rattle.paxos_core_theorem.proofs.promises.one_code_again.Goals as goal

pub returns-clause-goes_on : goal.returns-clause-goes_on
returns-clause-goes_on c = farm_reopenings_go_on

pub returns-clause-linked : goal.returns-clause-linked
returns-clause-linked c = farm_reopenings_link_as_before
