-- Why `machine_follows_c` meets its contract.
use Rattle.ints.proofs.Agree.{machine_table-c_table}
use Rattle.ints.proofs.laws.machine_follows_c.Goals as goal

pub returns : goal.returns
returns c = machine_table-c_table
