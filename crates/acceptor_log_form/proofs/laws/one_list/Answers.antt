use Rattle.acceptor_log_form.proofs.Texts.{listed-stands}
use Rattle.acceptor_log_form.proofs.laws.one_list.Goals as goal

pub returns : goal.returns
returns c = listed-stands
