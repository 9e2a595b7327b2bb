-- Why `text_of_allocation` meets its clause `ok`.
use Rattle.std.proofs.Common.{◌++◌, ap, ◌∙◌}
use Rattle.text_offers.specs.Shown.{shown_allocation}
use Rattle.text_offers.specs.Files.{OfAllocation}
use Rattle.text_offers.proofs.texts.text_of_allocation.Goals as goal

pub returns-clause-ok : goal.returns-clause-ok
returns-clause-ok c =
    let parts = c.in_ok-parts.parts in
    OfAllocation parts (record { fits = c.in_ok-parts.ensures.fits; text = c.in_ok-parts.ensures.spelled }) (c.in_ok-push_allocation.ensures ∙ ap (λ t. t ++ shown_allocation parts) c.new-text.ensures.items)
