-- Why `callees_begin` meets its clauses `parameters`, `others`, `globals` and `output`.
use Rattle.machine.proofs.Words.{entered-parameters, entered-others, entered-globals, entered-output}
use Rattle.machine.proofs.callees.callees_begin.Goals as goal

pub returns-clause-parameters : goal.returns-clause-parameters
returns-clause-parameters c = entered-parameters

pub returns-clause-others : goal.returns-clause-others
returns-clause-others c = entered-others

pub returns-clause-globals : goal.returns-clause-globals
returns-clause-globals c = entered-globals

pub returns-clause-output : goal.returns-clause-output
returns-clause-output c = entered-output
