-- Why `causes_hold` meets its contract.
use Rattle.c_faults.proofs.Holding.{causes-hold}
use Rattle.c_faults.proofs.law.causes_hold.Goals as goal

pub returns : goal.returns
returns c = causes-hold
