-- Why `kind_of` meets its contract.
use Rattle.std.proofs.Common.{sym}
use Rattle.c_lexer_lexemes.proofs.KeywordTexts.{keyword_is}
use Rattle.c_lexer.proofs.words.kind_of.Goals as goal

pub returns-in-Some-keyword : goal.returns-in-Some-keyword
returns-in-Some-keyword c = keyword_is c.args.word.now c.in-Some-keyword.keyword (sym c.in-Some-keyword.ensures)
