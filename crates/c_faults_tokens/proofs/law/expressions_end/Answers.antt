-- Why `expressions_end` meets its contract.
use Rattle.c_faults_tokens.proofs.Expressions.{expressions-end}
use Rattle.c_faults_tokens.proofs.law.expressions_end.Goals as goal

pub returns : goal.returns
returns c = expressions-end
