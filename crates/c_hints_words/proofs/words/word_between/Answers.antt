-- Why `word_between` meets its contract.
use Rattle.c_hints_words.proofs.Standings.{worded}
use Rattle.c_hints_words.proofs.words.word_between.Goals as goal

pub returns : goal.returns
returns c = worded c.args.text.now c.args.start c.bytes_between.result.now c.word_of.result.now c.word_of.ensures c.bytes_between.ensures
