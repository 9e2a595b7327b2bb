-- What is found of the texts that stand there.
use Rattle.std.proofs.Common.{◌≡◌, subst, ◌∙◌}
use Rattle.bundle_reading.specs.Read as read
use Rattle.bundle_reading.proofs.Places.{got}
use Rattle.bundle_offers.proofs.reading.found_at.Goals as goal

pub returns : goal.returns
returns g c =
    let texts = c.index-functions-number in
    let found = c.found_texts.ensures in (
      λ t e.
          let same : texts.result ≡ t = texts.is ∙ (got c.args.functions.now c.args.number t texts.result e).1 in
          subst (λ u. read.IsFound u (read.four_in c.found_texts.result)) same found.0,
      found.1,
    )
