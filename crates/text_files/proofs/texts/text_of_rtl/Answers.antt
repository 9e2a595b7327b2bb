-- Why `text_of_rtl` meets its clause `ok`.
use Rattle.std.proofs.Common.{◌++◌, ap, ◌∙◌}
use Rattle.text_rtl.specs.Shown.{shown_rtl}
use Rattle.text_files.specs.Files.{OfRtl}
use Rattle.text_files.proofs.texts.text_of_rtl.Goals as goal

pub returns-clause-ok : goal.returns-clause-ok
returns-clause-ok c =
    let program = c.in_ok-program.program in
    OfRtl program c.in_ok-program.ensures.ok (c.in_ok-push_rtl.ensures ∙ ap (λ t. t ++ shown_rtl program) c.new-text.ensures.items)
