-- Why `bits_stand_alone` meets its contract.
use Rattle.ints.proofs.Bits.{works_on_bits}
use Rattle.ints.proofs.laws.bits_stand_alone.Goals as goal

pub returns : goal.returns
returns c = works_on_bits
