-- Why `still_in_order` meets its contract.
use Rattle.acceptor_log_old.proofs.Rooms.{migrated-in_order}
use Rattle.acceptor_log_old.proofs.migrated_laws.still_in_order.Goals as goal

pub returns : goal.returns
returns c = migrated-in_order
