-- Why `word` meets its contract.
use Rattle.std.proofs.Common.{refl}
use Rattle.c_lexer_lexemes.proofs.WordFronts.{begins_with, word_token, bad_number}
use Rattle.c_lexer.proofs.words.word.Goals as goal

pub returns-in-Some : goal.returns-in-Some
returns-in-Some c =
    let len = c.word_len-len.ensures in
    let begins = begins_with c.args.text.now c.word_len-len.result c.requires.first c.requires.some len.in_range len.each len.ends in
    (len.in_range, word_token c.args.text.now c.word_len-len.result begins c.in_ok-kind.kind c.in-Some.kind c.in-Some.is c.in_ok-kind.ensures)

pub returns-in-None : goal.returns-in-None
returns-in-None c memory =
    let len = c.word_len-len.ensures in
    let begins = begins_with c.args.text.now c.word_len-len.result c.requires.first c.requires.some len.in_range len.each len.ends in
    (refl, bad_number c.args.text.now c.word_len-len.result begins c.in_ok-kind.kind c.in-None.is c.in_ok-kind.ensures)
