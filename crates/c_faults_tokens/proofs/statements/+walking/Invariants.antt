use Rattle.std.proofs.Common.{◌≡◌}
use Rattle.c_faults_tokens.proofs.Lists.{behind_from}
use Rattle.c_faults_tokens.proofs.statements.+walking.Given as goal

abbrev pub invariant-behind_statements-loop-statement : goal.invariant-behind_statements-loop-statement
invariant-behind_statements-loop-statement l = behind_from l.statement-index l.statements l.rest ≡ behind_from 0 l.statements l.tokens
