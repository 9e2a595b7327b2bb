-- Why `is_same` meets its contract.
use Rattle.machine.proofs.Equal.{tells_decides}
use Rattle.cse_check_rules.specs.contracts.equation.EquationEq.TheImpl.Laws as equation_laws
use Rattle.cse_check_rules.proofs.Equal.{equation_tells}
use Rattle.cse_check_rules.proofs.same.is_same.Goals as goal

pub returns : goal.returns
returns c = rw c.eq.ensures (tells_decides equation_laws.laws-law equation_tells c.args.first c.args.second)
