use Rattle.rooms_table.specs.Opened.{ShowFirst}
use Rattle.rooms_rights.proofs.opening.opening_words.Given as goal

abbrev pub invariant-loop-pair : goal.invariant-loop-pair
invariant-loop-pair l = ShowFirst l.openings l.pair l.words
