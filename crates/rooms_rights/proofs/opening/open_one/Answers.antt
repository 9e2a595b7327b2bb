-- Why `open_one` may call `of_words`.
use Rattle.rooms_table.proofs.Opening.{opens_so}
use Rattle.rooms_rights.proofs.opening.open_one.Goals as goal

pub of_words-requires : goal.of_words-requires
of_words-requires c = opens_so c.args.openings.now c.pairs_of-pairs.result c.opening_words-words.result c.pairs_of-pairs.ensures.value c.requires.can c.opening_words-words.ensures
