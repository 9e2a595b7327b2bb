-- Why `text_of_expressions` meets its clause `ok`.
use Rattle.std.proofs.Common.{◌++◌, ap, ◌∙◌}
use Rattle.text_offers.specs.Shown.{shown_expressions}
use Rattle.text_offers.specs.Files.{OfExpressions}
use Rattle.text_offers.proofs.texts.text_of_expressions.Goals as goal

pub returns-clause-ok : goal.returns-clause-ok
returns-clause-ok c =
    let parts = c.in_ok-parts.parts in
    OfExpressions parts (record { fits = c.in_ok-parts.ensures.fits; text = c.in_ok-parts.ensures.spelled }) (c.in_ok-push_expressions.ensures ∙ ap (λ t. t ++ shown_expressions parts) c.new-text.ensures.items)
