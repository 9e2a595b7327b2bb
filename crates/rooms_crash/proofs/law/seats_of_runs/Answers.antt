-- Why `seats_of_runs` meets its contract.
use Rattle.rooms_crash.proofs.Keeping.{calls_keep_run}
use Rattle.rooms_crash.proofs.law.seats_of_runs.Goals as goal

pub returns : goal.returns
returns c = calls_keep_run
