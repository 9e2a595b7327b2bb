-- Why `invariant_holds` meets its clauses `opens` and `kept`.
use Rattle.paxos_core_invariant.proofs.Keeps.{keeps}
use Rattle.paxos_core_invariant.proofs.Opens.{opens}
use Rattle.paxos_core_invariant.proofs.law.invariant_holds.Goals as goal

pub returns-clause-opens : goal.returns-clause-opens
returns-clause-opens c = opens

pub returns-clause-kept : goal.returns-clause-kept
returns-clause-kept c = keeps
