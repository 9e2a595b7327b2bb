-- Why `text_of_cminor` meets its clause `ok`.
use Rattle.std.proofs.Common.{◌++◌, ap, ◌∙◌}
use Rattle.text_cminor.specs.Shown.{shown_cminor}
use Rattle.text_files.specs.Files.{OfCminor}
use Rattle.text_files.proofs.texts.text_of_cminor.Goals as goal

pub returns-clause-ok : goal.returns-clause-ok
returns-clause-ok c =
    let program = c.in_ok-program.program in
    OfCminor program c.in_ok-program.ensures.ok (c.in_ok-push_cminor.ensures ∙ ap (λ t. t ++ shown_cminor program) c.new-text.ensures.items)
