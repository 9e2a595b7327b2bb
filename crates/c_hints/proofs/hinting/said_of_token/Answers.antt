use Rattle.c_hints.proofs.Rows.{token_said}
use Rattle.c_hints.proofs.hinting.said_of_token.Goals as goal

-- src/hinting.rt:97:1
pub returns : goal.returns
returns c = token_said c.args.text.now c.args.found.now c.syntax_text.result c.statement_of-statement.result.now c.contains-on_new_line.result c.tokens_before-before.result c.syntax_text.ensures
