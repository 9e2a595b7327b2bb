-- Where C's table answers, the machine's answers the same.
use Rattle.std.proofs.Common.{◌≡◌, ℕ, List, Some, Ok, arith}
use Rattle.ints.specs.declared.operators.Op.{Op}
use Rattle.ints.specs.MachineTable.{machine_table}
use Rattle.ints.specs.CTable.{c_table}

pub machine_table-c_table : (op : Op) (args : List ℕ) (word : ℕ) → c_table op args ≡ Ok word → machine_table op args ≡ Some word
unfolding machine_table c_table
machine_table-c_table _ _ word e = grind arith
