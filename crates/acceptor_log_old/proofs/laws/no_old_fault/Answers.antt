-- Why `no_old_fault` meets its contract.
use Rattle.acceptor_log_old.proofs.OldTexts.{old_stands-no_fault}
use Rattle.acceptor_log_old.proofs.laws.no_old_fault.Goals as goal

pub returns : goal.returns
returns c = old_stands-no_fault
