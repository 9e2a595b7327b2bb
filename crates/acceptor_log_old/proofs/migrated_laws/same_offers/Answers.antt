-- Why `same_offers` meets its contract.
use Rattle.acceptor_log_old.proofs.Offers.{offers-migrated}
use Rattle.acceptor_log_old.proofs.migrated_laws.same_offers.Goals as goal

pub returns : goal.returns
returns c = offers-migrated
