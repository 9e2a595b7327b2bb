-- Why `lex` meets its clauses `only` and `first`.
use Rattle.c_lexer.proofs.Lexed.{only_tokens, first_fault}
use Rattle.c_lexer.proofs.lexer.lex.Goals as goal

pub returns-clause-only : goal.returns-clause-only
returns-clause-only c = only_tokens c.args.text.now c.read.result c.read.ensures.ok c.read.ensures.err

pub returns-clause-first : goal.returns-clause-first
returns-clause-first c = first_fault c.args.text.now c.read.result c.read.ensures.ok c.read.ensures.err
