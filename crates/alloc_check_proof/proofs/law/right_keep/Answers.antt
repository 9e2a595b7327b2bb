-- Why `right_keep` meets its contract.
use Rattle.alloc_check_proof.proofs.Sound.{right_keep}
use Rattle.alloc_check_proof.proofs.law.right_keep.Goals as goal

pub returns : goal.returns
returns c = right_keep
