-- Why `causes_hold` meets its contract.
use Rattle.linear_faults.proofs.Laws.{causes_hold_there}
use Rattle.linear_faults.proofs.law.causes_hold.Goals as goal

pub returns : goal.returns
returns c = causes_hold_there
