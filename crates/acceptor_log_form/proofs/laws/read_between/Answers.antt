-- Why `read_between` meets its clauses `lists` and `no_fault`.
use Rattle.acceptor_log_form.proofs.Between.{between-lists, between-no_fault}
use Rattle.acceptor_log_form.proofs.laws.read_between.Goals as goal

pub returns-clause-lists : goal.returns-clause-lists
returns-clause-lists c = between-lists

pub returns-clause-no_fault : goal.returns-clause-no_fault
returns-clause-no_fault c = between-no_fault
