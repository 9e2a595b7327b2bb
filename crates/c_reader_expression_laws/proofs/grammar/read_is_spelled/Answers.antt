-- Why `read_is_spelled` meets its contract.
use Rattle.c_reader_expression_laws.proofs.Laws.{expression_takes}
use Rattle.c_reader_expression_laws.proofs.grammar.read_is_spelled.Goals as goal

pub returns : goal.returns
returns c = λ fuel level ts t rest e. let r = expression_takes fuel level ts t rest e in (r.takes, r.low)
