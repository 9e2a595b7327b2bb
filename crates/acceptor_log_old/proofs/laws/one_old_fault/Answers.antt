-- Why `one_old_fault` meets its contract.
use Rattle.acceptor_log_old.proofs.OneOldFault.{one-old_fault}
use Rattle.acceptor_log_old.proofs.laws.one_old_fault.Goals as goal

pub returns : goal.returns
returns c = one-old_fault
