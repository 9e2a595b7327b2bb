-- Why `first_part` meets its contract.
use Rattle.std.proofs.Common.{sym}
use Rattle.c_lexer.proofs.CommentFronts.{white_gap}
use Rattle.c_lexer.proofs.parts.first_part.Goals as goal

pub returns-then-is_white : goal.returns-then-is_white
returns-then-is_white c = white_gap c.args.text.now c.requires (sym c.if-is_white.ensures)
