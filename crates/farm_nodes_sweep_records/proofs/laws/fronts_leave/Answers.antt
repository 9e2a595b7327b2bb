use Rattle.farm_nodes_sweep_records.proofs.Fronts.{front-leaves}
use Rattle.farm_nodes_sweep_records.proofs.laws.fronts_leave.Goals as goal

pub returns : goal.returns
returns c = front-leaves
