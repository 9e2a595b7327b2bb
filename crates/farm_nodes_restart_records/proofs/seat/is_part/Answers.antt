-- Why `is_part` meets its contract.
use Rattle.farm_nodes_restart_records.proofs.Keeping.{part_at}
use Rattle.farm_nodes_restart_records.proofs.seat.is_part.Goals as goal

pub returns : goal.returns
returns c = part_at c.args.parts.now c.args.place c.index-parts-place.result c.args.kept _ c.index-parts-place.is c.requires c.same_part.ensures
