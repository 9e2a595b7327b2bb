-- Why `laid_out_keeps` meets its contract.
use Rattle.linearize_check_proof.proofs.Sound.{sound}
use Rattle.linearize_check_proof.proofs.law.laid_out_keeps.Goals as goal

pub returns : goal.returns
returns c = sound
