-- Why `staged_may_be_put` meets its contract.
use Rattle.farm_nodes_sweep_step.proofs.Stepping.{may_put}
use Rattle.farm_nodes_sweep_step.proofs.laws.staged_may_be_put.Goals as goal

pub returns : goal.returns
returns c = may_put
