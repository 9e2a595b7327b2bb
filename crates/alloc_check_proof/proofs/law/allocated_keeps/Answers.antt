-- Why `allocated_keeps` meets its contract.
use Rattle.alloc_check_proof.proofs.Sound.{sound}
use Rattle.alloc_check_proof.proofs.law.allocated_keeps.Goals as goal

pub returns : goal.returns
returns c = sound
