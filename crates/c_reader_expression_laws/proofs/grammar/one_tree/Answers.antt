-- Why `one_tree` meets its contract.
use Rattle.c_reader_expression_laws.proofs.Laws.{one_tree}
use Rattle.c_reader_expression_laws.proofs.grammar.one_tree.Goals as goal

pub returns : goal.returns
returns c = one_tree
