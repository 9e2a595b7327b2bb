-- Why `one_code` meets its clauses `linked` and `chained`.
use Rattle.paxos_core_theorem.proofs.Chains.{runs_link_one, runs_chain}
use Rattle.paxos_core_theorem.proofs.promises.one_code.Goals as goal

pub returns-clause-linked : goal.returns-clause-linked
returns-clause-linked c = runs_link_one

pub returns-clause-chained : goal.returns-clause-chained
returns-clause-chained c = runs_chain
