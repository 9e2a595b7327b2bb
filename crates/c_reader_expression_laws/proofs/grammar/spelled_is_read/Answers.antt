-- Why `spelled_is_read` meets its contract.
use Rattle.c_reader_expression_laws.proofs.Laws.{expression_again}
use Rattle.c_reader_expression_laws.proofs.grammar.spelled_is_read.Goals as goal

pub returns : goal.returns
returns c = expression_again
