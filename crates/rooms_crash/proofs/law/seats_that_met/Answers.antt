-- Why `seats_that_met` meets its contract.
use Rattle.rooms_crash.proofs.Joining.{meetings_join}
use Rattle.rooms_crash.proofs.law.seats_that_met.Goals as goal

pub returns : goal.returns
returns c = meetings_join
