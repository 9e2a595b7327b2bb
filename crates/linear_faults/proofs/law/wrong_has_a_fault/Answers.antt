-- Why `wrong_has_a_fault` meets its contract.
use Rattle.linear_faults.proofs.Laws.{fault_where_wrong}
use Rattle.linear_faults.proofs.law.wrong_has_a_fault.Goals as goal

pub returns : goal.returns
returns c = fault_where_wrong
