use Rattle.acceptor_log_form.proofs.Texts.{stands-one_header}
use Rattle.acceptor_log_form.proofs.laws.one_header.Goals as goal

pub returns : goal.returns
returns c = stands-one_header
