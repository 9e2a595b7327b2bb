-- Why `left_is_settled` meets its contract.
use Rattle.farm_nodes_open_numbers.proofs.Left.{left_settled}
use Rattle.farm_nodes_open_numbers.proofs.law.left_is_settled.Goals as goal

pub returns : goal.returns
returns c = left_settled
