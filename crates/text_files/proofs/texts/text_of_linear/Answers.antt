-- Why `text_of_linear` meets its clause `ok`.
use Rattle.std.proofs.Common.{◌++◌, ap, ◌∙◌}
use Rattle.text_linear.specs.Shown.{shown_linear}
use Rattle.text_files.specs.Files.{OfLinear}
use Rattle.text_files.proofs.texts.text_of_linear.Goals as goal

pub returns-clause-ok : goal.returns-clause-ok
returns-clause-ok c =
    let program = c.in_ok-program.program in
    OfLinear program c.in_ok-program.ensures.ok (c.in_ok-push_linear.ensures ∙ ap (λ t. t ++ shown_linear program) c.new-text.ensures.items)
