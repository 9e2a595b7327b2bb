-- Why `lowering_is_safe` meets its contract.
use Rattle.native_lowering_laws.proofs.InRange.{stays_safe}
use Rattle.native_lowering_laws.proofs.laws.lowering_is_safe.Goals as goal

pub returns : goal.returns
returns c = stays_safe
