-- Why `agreement` meets its clauses `calls`, `nodes`, `shown`, `from_quorum` and 1 more.
use Rattle.paxos_core.proofs.QuorumLemmas.{learns_from_quorum, quorum_is_learned}
use Rattle.paxos_core.proofs.ScheduleLemmas.{plays, learns_one, shows}
use Rattle.paxos_core.proofs.theorem.agreement.Goals as goal

pub returns-clause-calls : goal.returns-clause-calls
returns-clause-calls c = plays

pub returns-clause-nodes : goal.returns-clause-nodes
returns-clause-nodes c = learns_one

pub returns-clause-shown : goal.returns-clause-shown
returns-clause-shown c = shows

pub returns-clause-from_quorum : goal.returns-clause-from_quorum
returns-clause-from_quorum c = learns_from_quorum

pub returns-clause-quorum : goal.returns-clause-quorum
returns-clause-quorum c = quorum_is_learned
