-- Why `is_at` meets its contract.
use Rattle.locations.specs.contracts.location.LocationEq.TheImpl.Laws as location_laws
use Rattle.locations.proofs.Equal.{tells_decides, location_tells}
use Rattle.alloc_check_blocks.proofs.origins.is_at.Goals as goal

pub returns : goal.returns
returns c = rw c.eq.ensures (tells_decides location_laws.laws-law location_tells c.args.location.now c.args.other.now)
