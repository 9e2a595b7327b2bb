-- Why `text_of_ltl` meets its clause `ok`.
use Rattle.std.proofs.Common.{◌++◌, ap, ◌∙◌}
use Rattle.text_ltl.specs.Shown.{shown_ltl}
use Rattle.text_files.specs.Files.{OfLtl}
use Rattle.text_files.proofs.texts.text_of_ltl.Goals as goal

pub returns-clause-ok : goal.returns-clause-ok
returns-clause-ok c =
    let program = c.in_ok-program.program in
    OfLtl program c.in_ok-program.ensures.ok (c.in_ok-push_ltl.ensures ∙ ap (λ t. t ++ shown_ltl program) c.new-text.ensures.items)
