-- Why `lowering_keeps` meets its contract.
use Rattle.native_lowering_laws.proofs.InRange.{keeps_meaning}
use Rattle.native_lowering_laws.proofs.laws.lowering_keeps.Goals as goal

pub returns : goal.returns
returns c = keeps_meaning
