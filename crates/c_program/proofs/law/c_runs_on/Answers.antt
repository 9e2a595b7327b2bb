-- Why `c_runs_on` meets its contract.
use Rattle.c_program.specs.Growth.{runs_on}
use Rattle.c_program.proofs.law.c_runs_on.Goals as goal

pub returns : goal.returns
returns c = runs_on
