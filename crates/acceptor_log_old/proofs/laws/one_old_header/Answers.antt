-- Why `one_old_header` meets its contract.
use Rattle.acceptor_log_old.proofs.OldTexts.{old_stands-one_header}
use Rattle.acceptor_log_old.proofs.laws.one_old_header.Goals as goal

pub returns : goal.returns
returns c = old_stands-one_header
