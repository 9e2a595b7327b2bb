-- Why `punctuator` meets its contract.
use Rattle.std.proofs.Common.{sym, refl, ◌∙◌}
use Rattle.c_lexer_lexemes.specs.Lookups.{longest_of}
use Rattle.c_lexer_lexemes.proofs.PunctuatorFronts.{punctuator_token, bad_byte}
use Rattle.c_lexer.proofs.punctuators.punctuator.Goals as goal

pub returns-in-Some : goal.returns-in-Some
returns-in-Some c =
    punctuator_token c.args.text.now c.requires.no_word c.requires.no_quote c.in-Some.punctuator c.in-Some.len c.requires.no_comment
    ((λ i. longest_of (sym c.byte_at.ensures i) (sym c.byte_at-2.ensures i) (sym c.byte_at-3.ensures i)) ∙ sym c.in-Some.ensures)

pub returns-in-None : goal.returns-in-None
returns-in-None c memory = (
  refl,
  bad_byte c.args.text.now c.requires.no_word c.requires.no_quote c.requires.some c.requires.no_white
      ((λ i. longest_of (sym c.byte_at.ensures i) (sym c.byte_at-2.ensures i) (sym c.byte_at-3.ensures i)) ∙ sym c.in-None.ensures),
)
