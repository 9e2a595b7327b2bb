-- Why `same_kept` meets its contract.
use Rattle.acceptor_log_old.proofs.Rooms.{migrated-kept}
use Rattle.acceptor_log_old.proofs.migrated_laws.same_kept.Goals as goal

pub returns : goal.returns
returns c = migrated-kept
