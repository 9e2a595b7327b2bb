-- Why `with_or_without` meets its contract.
use Rattle.acceptor_log_form.proofs.Between.{between-two}
use Rattle.acceptor_log_form.proofs.laws.with_or_without.Goals as goal

pub returns : goal.returns
returns c = between-two
