-- Why `origins_hold` meets its contract.
use Rattle.alloc_check_rules.proofs.Locations.{value_moves}
use Rattle.alloc_check_rules.proofs.law.origins_hold.Goals as goal

pub returns : goal.returns
returns c = λ slots ms l e frame fits. value_moves slots ms l e frame fits.each
