-- Why `offer_is_kept` meets its contract.
use Rattle.std.proofs.Common.{None, refl}
use Rattle.paxos_core_world.specs.KeptPart.{nothing_kept}
use Rattle.farm_nodes_open_offers.proofs.Keeping.{offered_both}
use Rattle.farm_nodes_open_offers.proofs.laws.offer_is_kept.Goals as goal

pub returns : goal.returns
returns c = λ rs room. offered_both rs room nothing_kept None refl
