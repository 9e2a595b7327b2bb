-- Why `seats_that_heard` meets its contract.
use Rattle.rooms_crash_heard.proofs.Hearing.{heard_rest}
use Rattle.rooms_crash_heard.proofs.law.seats_that_heard.Goals as goal

pub returns : goal.returns
returns c = heard_rest
