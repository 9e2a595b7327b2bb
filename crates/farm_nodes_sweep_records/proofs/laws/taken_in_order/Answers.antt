use Rattle.farm_nodes_sweep_records.proofs.Taking.{none-pending, staged, first-taken}
use Rattle.farm_nodes_sweep_records.proofs.laws.taken_in_order.Goals as goal

pub returns-clause-none : goal.returns-clause-none
returns-clause-none c = none-pending

pub returns-clause-stages : goal.returns-clause-stages
returns-clause-stages c = staged

pub returns-clause-takes : goal.returns-clause-takes
returns-clause-takes c = first-taken
