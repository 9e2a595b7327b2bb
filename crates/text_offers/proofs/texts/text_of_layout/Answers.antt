-- Why `text_of_layout` meets its clause `ok`.
use Rattle.std.proofs.Common.{◌++◌, ap, ◌∙◌}
use Rattle.text_offers.specs.Shown.{shown_layout}
use Rattle.text_offers.specs.Files.{OfLayout}
use Rattle.text_offers.proofs.texts.text_of_layout.Goals as goal

pub returns-clause-ok : goal.returns-clause-ok
returns-clause-ok c =
    let parts = c.in_ok-parts.parts in
    OfLayout parts (record { fits = c.in_ok-parts.ensures.fits; text = c.in_ok-parts.ensures.spelled }) (c.in_ok-push_layout.ensures ∙ ap (λ t. t ++ shown_layout parts) c.new-text.ensures.items)
