-- Why `character` meets its contract.
use Rattle.std.proofs.Common.{sym, refl, ap, ◌∙◌}
use Rattle.c_lexer_lexemes.specs.Lookups.{character_of}
use Rattle.c_lexer.proofs.CharacterFronts.{character_token, bad_character}
use Rattle.c_lexer_lexemes.proofs.Starts.{found}
use Rattle.c_lexer.proofs.characters.character.Goals as goal

pub returns-in-Some : goal.returns-in-Some
returns-in-Some c =
    character_token c.args.text.now c.requires.quote c.from.result c.in-Some.len
    ((λ i. character_of (sym c.byte_at.ensures i) (sym c.byte_at-2.ensures i) (sym c.byte_at-3.ensures i)) ∙ sym c.in-Some.ensures ∙ ap (λ v. found v c.in-Some.len) (sym c.from.ensures))

pub returns-in-None : goal.returns-in-None
returns-in-None c memory = (
  refl,
  bad_character c.args.text.now c.requires.quote c.requires.some
      ((λ i. character_of (sym c.byte_at.ensures i) (sym c.byte_at-2.ensures i) (sym c.byte_at-3.ensures i)) ∙ sym c.in-None.ensures),
)
