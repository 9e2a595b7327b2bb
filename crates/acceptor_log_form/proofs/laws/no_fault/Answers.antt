use Rattle.acceptor_log_form.proofs.Texts.{stands-no_fault}
use Rattle.acceptor_log_form.proofs.laws.no_fault.Goals as goal

pub returns : goal.returns
returns c = stands-no_fault
