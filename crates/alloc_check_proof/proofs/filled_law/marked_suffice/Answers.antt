-- Why `marked_suffice` meets its contract.
use Rattle.alloc_check_proof.proofs.Kept.{kept}
use Rattle.alloc_check_proof.proofs.filled_law.marked_suffice.Goals as goal

pub returns : goal.returns
returns c = λ input output lists rows fits shape right are_rows same. kept input output lists rows fits shape right same are_rows
