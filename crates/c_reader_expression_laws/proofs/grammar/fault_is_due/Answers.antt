-- Why `fault_is_due` meets its contract.
use Rattle.c_reader_expression_laws.proofs.Laws.{expression_refused}
use Rattle.c_reader_expression_laws.proofs.grammar.fault_is_due.Goals as goal

pub returns : goal.returns
returns c = expression_refused
