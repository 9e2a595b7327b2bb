-- Why `statements_end` meets its contract.
use Rattle.c_faults_tokens.proofs.StatementEnds.{all-end}
use Rattle.c_faults_tokens.proofs.law.statements_end.Goals as goal

pub returns : goal.returns
returns c = all-end
