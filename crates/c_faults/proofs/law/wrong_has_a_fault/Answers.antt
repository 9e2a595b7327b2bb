-- Why `wrong_has_a_fault` meets its contract.
use Rattle.c_faults.proofs.Faults.{wrong-has-fault}
use Rattle.c_faults.proofs.law.wrong_has_a_fault.Goals as goal

pub returns : goal.returns
returns c = wrong-has-fault
