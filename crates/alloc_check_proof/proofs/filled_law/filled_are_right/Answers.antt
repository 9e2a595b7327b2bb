-- Why `filled_are_right` meets its contract.
use Rattle.alloc_check_proof.proofs.Right.{right_from}
use Rattle.alloc_check_proof.proofs.filled_law.filled_are_right.Goals as goal

pub returns : goal.returns
returns c = right_from
