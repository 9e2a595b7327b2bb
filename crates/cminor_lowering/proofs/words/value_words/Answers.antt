-- Why `value_words` meets its contract.
use Rattle.std.proofs.Common.{All, sym, subst}
use Rattle.c_program.specs.Views.{term_tree, given_tree}
use Rattle.cminor_lowering.specs.Held.{HasWords, GivenHasWords}
use Rattle.cminor_lowering.proofs.Rows.{each_word}
use Rattle.cminor_lowering.proofs.words.value_words.Goals as goal

pub returns-in-Call : goal.returns-in-Call
returns-in-Call c =
    let words = subst (All (λ t. HasWords (term_tree t))) c.as_slice.ensures c.each_term_words.ensures in
    subst (λ v. GivenHasWords (given_tree v)) (sym c.in-Call.is) (each_word c.in-Call.call.arguments words)
