-- Why `one_old_list` meets its contract.
use Rattle.acceptor_log_old.proofs.OldTexts.{old_listed-stands}
use Rattle.acceptor_log_old.proofs.laws.one_old_list.Goals as goal

pub returns : goal.returns
returns c = old_listed-stands
