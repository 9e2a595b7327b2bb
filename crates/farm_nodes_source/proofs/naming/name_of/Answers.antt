-- The function of a number has a C name.
use Rattle.std.proofs.Common.{get_or, Some, sym, ap, subst, ◌∙◌}
use Rattle.c_lexer_lexemes.specs.Lexemes.{IsName}
use Rattle.c_program.specs.declared.function.Function.{Function}
use Rattle.farm_nodes_source.proofs.Numbered.{name_at, named_at}
use Rattle.farm_nodes_source.proofs.naming.name_of.Goals as goal

pub text_of-requires : goal.text_of-requires
text_of-requires c =
    let fs = c.args.program.now.functions in
    let f = c.index-functions-function.result in
    let at = c.index-functions-function.is ∙ ap (λ gs. get_or gs c.args.function f) c.functions.ensures in
    let own = c.into_vec.ensures ∙ c.in-Ok.ensures ∙ ap (λ (g : Function). g.name) (sym c.index-functions-function.is) in
    subst IsName (sym own) (name_at fs c.args.function f c.requires.number at c.requires.names)

pub returns-in-Ok : goal.returns-in-Ok
returns-in-Ok c =
    let fs = c.args.program.now.functions in
    let f = c.index-functions-function.result in
    let at = c.index-functions-function.is ∙ ap (λ gs. get_or gs c.args.function f) c.functions.ensures in
    let own = c.into_vec.ensures ∙ c.in-Ok.ensures ∙ ap (λ (g : Function). g.name) (sym c.index-functions-function.is) in
    named_at fs c.args.function f c.requires.number at ∙ ap (λ name. Some name) (sym (c.text_of.ensures ∙ own))
