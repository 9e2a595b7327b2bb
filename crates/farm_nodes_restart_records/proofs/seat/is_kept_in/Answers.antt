-- Why `is_kept_in` meets its contract.
use Rattle.std.proofs.Common.{◌≡◌, ◌↔◌, IsTrue, Some, subst}
use Rattle.std.specs.Prelude.{slice_get}
use Rattle.paxos_core_world.specs.KeptPart.{KeptPart}
use Rattle.farm_nodes_restart_records.proofs.seat.is_kept_in.Goals as goal

pub returns : goal.returns
returns g c = subst (λ (k : KeptPart). IsTrue c.is_part.result ↔ (slice_get c.args.parts.now c.args.place ≡ Some k)) c.kept.ensures c.is_part.ensures
