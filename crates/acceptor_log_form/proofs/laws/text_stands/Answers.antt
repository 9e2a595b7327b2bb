use Rattle.acceptor_log_form.proofs.Texts.{text-stands}
use Rattle.acceptor_log_form.proofs.laws.text_stands.Goals as goal

pub returns : goal.returns
returns c = text-stands
