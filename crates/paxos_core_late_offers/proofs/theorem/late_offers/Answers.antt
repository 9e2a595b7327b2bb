-- Why `late_offers` meets its clauses `calls` and `others`.
use Rattle.paxos_core_late_offers.proofs.LateLemmas.{offers_may_be_late, others_leave_it}
use Rattle.paxos_core_late_offers.proofs.theorem.late_offers.Goals as goal

pub returns-clause-calls : goal.returns-clause-calls
returns-clause-calls c = offers_may_be_late

pub returns-clause-others : goal.returns-clause-others
returns-clause-others c = others_leave_it
