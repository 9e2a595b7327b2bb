-- Why `push_named` meets its contract.
use Rattle.std.proofs.Common.{[], ◌∷◌, ◌++◌, ap, ◌∙◌, subst}
use Rattle.lang_base.specs.Texts.{Appends}
use Rattle.text_keys.specs.Lines.{spaced, line_end}
use Rattle.text_keys.specs.Names.{named_head}
use Rattle.text_keys.proofs.Appending.{function_written}
use Rattle.std.specs.List.{flat_map}
use Rattle.text_keys.specs.declared.key.Key.TheVariants as key
use Rattle.text_keys.specs.declared.word.Word.TheVariants as word
use Rattle.text_common.specs.Acts.{location_word}
use Rattle.text_linear.specs.Shown.{size_words, shown_instruction, shown_code}
use Rattle.text_linear.proofs.function.push_named.Goals as goal

pub returns : goal.returns
returns c =
    let f = c.args.function.now in
    let old = c.args.out.now.items in
    let first = c.push_head.new.out.items in
    let third = c.end_line.new.out.items in
    let r = c.push_each.result in
    function_written r (named_head location_word c.args.name.now (f.parameters)) (spaced (size_words f)) line_end (shown_code f) old first c.push_count.new.out.items third c.push_each.new.out.items
    (c.in_ok-push_head.ensures ∙ ap (λ ps. old ++ named_head location_word c.args.name.now ps) (c.as_slice.ensures ∙ c.parameters.ensures))
    (c.in_ok-push_count.ensures ∙ ap (λ n. first ++ spaced (word.Named key.Slots ∷ word.Number n ∷ [])) c.slots.ensures) c.in_ok-end_line.ensures
    (subst (λ is. Appends r (flat_map shown_instruction is) third c.push_each.new.out.items) (c.as_slice-2.ensures ∙ c.code.ensures.code) c.push_each.ensures)
