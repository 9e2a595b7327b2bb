-- The function of a number has a C name.
use Rattle.std.proofs.Common.{Some, sym, ap, subst, ◌∙◌}
use Rattle.c_lexer_lexemes.specs.Lexemes.{IsName}
use Rattle.cfarm_verify.proofs.Named.{name_at, named_at}
use Rattle.cfarm_library_verify.proofs.naming.name_of.Goals as goal

pub text_of-requires : goal.text_of-requires
text_of-requires g c =
    let own = c.into_vec.ensures ∙ c.in-Ok.ensures in
    subst IsName (sym own) (name_at c.args.functions.now c.args.number c.index-functions-number.result c.requires.number c.requires.names)

pub returns-in-Ok : goal.returns-in-Ok
returns-in-Ok g c =
    let own = c.into_vec.ensures ∙ c.in-Ok.ensures in
    named_at c.args.functions.now c.args.number c.index-functions-number.result c.requires.number ∙ ap (λ name. Some name) (sym (c.text_of.ensures ∙ own))
