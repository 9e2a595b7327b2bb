-- Why `push_named` meets its contract.
use Rattle.std.proofs.Common.{[], ◌∷◌, ◌++◌, ap, ◌∙◌, subst}
use Rattle.lang_base.specs.Texts.{Appends}
use Rattle.text_keys.specs.Lines.{spaced, line_end}
use Rattle.text_keys.specs.Names.{named_head}
use Rattle.text_keys.proofs.Appending.{function_written}
use Rattle.text_keys.specs.declared.key.Key.TheVariants as key
use Rattle.text_keys.specs.declared.word.Word.TheVariants as word
use Rattle.text_cminor.specs.Shown.{variable_word, parameters_of, size_words, shown_body, shown_statement}
use Rattle.text_cminor.proofs.function.push_named.Goals as goal

pub returns : goal.returns
returns c =
    let f = c.args.function.now in
    let old = c.args.out.now.items in
    let first = c.push_head.new.out.items in
    let third = c.end_line.new.out.items in
    let r = c.push_statement.result in
    function_written r (named_head variable_word c.args.name.now (parameters_of f)) (spaced (size_words f)) line_end (shown_body f) old first c.push_count.new.out.items third c.push_statement.new.out.items
    (c.in_ok-push_head.ensures ∙ ap (λ ps. old ++ named_head variable_word c.args.name.now ps) (c.parameters_of.ensures))
    (c.in_ok-push_count.ensures ∙ ap (λ n. first ++ spaced (word.Named key.Variables ∷ word.Number n ∷ [])) c.variables.ensures) c.in_ok-end_line.ensures
    (subst (λ s. Appends r (shown_statement s) third c.push_statement.new.out.items) c.body.ensures.tree c.push_statement.ensures)
