-- Why `neighbours_hear` meets its contract.
use Rattle.rooms_crash_heard.proofs.Neighbours.{neighbours_hear}
use Rattle.rooms_crash_heard.proofs.law.neighbours_hear.Goals as goal

pub returns : goal.returns
returns c = neighbours_hear
