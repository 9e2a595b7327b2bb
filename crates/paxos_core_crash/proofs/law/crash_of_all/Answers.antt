-- Why `crash_of_all` meets its clauses `runs`, `settled`, `learned` and `journals`.
use Rattle.paxos_core_crash.proofs.CrashLemmas.{crashes_are_runs, crashes_leave_settled, crashes_learn_as_before}
use Rattle.paxos_core_crash.proofs.JournalLemmas.{journals_are_recorded}
use Rattle.paxos_core_crash.proofs.law.crash_of_all.Goals as goal

pub returns-clause-runs : goal.returns-clause-runs
returns-clause-runs c = crashes_are_runs

pub returns-clause-settled : goal.returns-clause-settled
returns-clause-settled c = crashes_leave_settled

pub returns-clause-learned : goal.returns-clause-learned
returns-clause-learned c = crashes_learn_as_before

pub returns-clause-journals : goal.returns-clause-journals
returns-clause-journals c = journals_are_recorded
