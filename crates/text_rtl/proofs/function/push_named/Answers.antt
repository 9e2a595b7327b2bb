-- Why `push_named` meets its contract.
use Rattle.std.proofs.Common.{◌++◌, ap, ◌∙◌, subst}
use Rattle.lang_base.specs.Texts.{Appends}
use Rattle.text_keys.specs.Lines.{spaced, line_end}
use Rattle.text_keys.specs.Names.{named_head}
use Rattle.text_keys.proofs.Appending.{function_written}
use Rattle.text_keys.specs.Numbered.{numbered_text}
use Rattle.text_rtl.specs.Acts.{register_word}
use Rattle.text_rtl.specs.Shown.{size_words, shown_node, shown_nodes}
use Rattle.text_rtl.proofs.function.push_named.Goals as goal

pub returns : goal.returns
returns c =
    let f = c.args.function.now in
    let old = c.args.out.now.items in
    let first = c.push_head.new.out.items in
    let third = c.end_line.new.out.items in
    let r = c.push_numbered.result in
    function_written r (named_head register_word c.args.name.now (f.parameters)) (spaced (size_words f)) line_end (shown_nodes f) old first c.push_size.new.out.items third c.push_numbered.new.out.items
    (c.in_ok-push_head.ensures ∙ ap (λ ps. old ++ named_head register_word c.args.name.now ps) (c.as_slice.ensures ∙ c.parameters.ensures))
    (c.in_ok-push_size.ensures) c.in_ok-end_line.ensures
    (subst (λ ns. Appends r (numbered_text shown_node 0 ns) third c.push_numbered.new.out.items) (c.as_slice-2.ensures ∙ c.nodes.ensures.nodes) c.push_numbered.ensures)
