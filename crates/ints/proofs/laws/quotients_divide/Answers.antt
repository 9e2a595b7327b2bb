-- Why `quotients_divide` meets its contract.
use Rattle.ints.proofs.Quotients.{divides}
use Rattle.ints.proofs.laws.quotients_divide.Goals as goal

pub returns : goal.returns
returns c = divides
