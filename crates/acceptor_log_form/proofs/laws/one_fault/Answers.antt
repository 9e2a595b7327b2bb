use Rattle.acceptor_log_form.proofs.OneFault.{one-fault}
use Rattle.acceptor_log_form.proofs.laws.one_fault.Goals as goal

pub returns : goal.returns
returns c = one-fault
