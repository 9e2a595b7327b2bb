-- Why `words_read_signed` meets its contract.
use Rattle.ints.proofs.Readings.{reads_signed}
use Rattle.ints.proofs.laws.words_read_signed.Goals as goal

pub returns : goal.returns
returns c = reads_signed
