-- Why `text_of_constants` meets its clause `ok`.
use Rattle.std.proofs.Common.{◌++◌, ap, ◌∙◌}
use Rattle.text_offers.specs.Shown.{shown_constants}
use Rattle.text_offers.specs.Files.{OfConstants}
use Rattle.text_offers.proofs.texts.text_of_constants.Goals as goal

pub returns-clause-ok : goal.returns-clause-ok
returns-clause-ok c =
    let parts = c.in_ok-parts.parts in
    OfConstants parts (record { fits = c.in_ok-parts.ensures.fits; text = c.in_ok-parts.ensures.spelled }) (c.in_ok-push_constants.ensures ∙ ap (λ t. t ++ shown_constants parts) c.new-text.ensures.items)
