use Rattle.acceptor_log_form.proofs.Texts.{stands-other}
use Rattle.acceptor_log_form.proofs.laws.other_header.Goals as goal

pub returns : goal.returns
returns c = stands-other
