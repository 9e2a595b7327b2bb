use Rattle.std.proofs.Common.{◌≡◌, take, map}
use Rattle.std.specs.List.{AllByRecursion}
use Rattle.bundle_form.specs.Form.{TextsFit}
use Rattle.bundle_reading.specs.Texts.{texts_of, OffersFit}
use Rattle.cfarm_emit.proofs.offering.all_texts.Given as goal

-- the texts of the first functions' offers
abbrev pub invariant-loop-number : goal.invariant-loop-number
invariant-loop-number l =
    (l.texts.items ≡ map texts_of (take l.number l.offers)) × AllByRecursion TextsFit l.texts.items × AllByRecursion OffersFit (take l.number l.offers)
