-- The first goes on from its own input, and each other one from the output before it.
use Rattle.std.proofs.Common.{refl, sym, subst}
use Rattle.constprop_check_rules.specs.Rules.{IsPropagated}
use Rattle.bundle_reading.specs.Read.{offers_of}
use Rattle.bundle_offers.specs.declared.fault.PassNumber.TheVariants.{First}
use Rattle.bundle_offers.specs.Reasons.{WhyFirst}
use Rattle.bundle_offers.specs.Standing.{IsAlone}
use Rattle.bundle_offers.proofs.Standings.{judged_of, step_of}
use Rattle.bundle_offers.proofs.reading.told_of.Goals as goal

pub returns : goal.returns
returns c = λ are.
    let four = c.args.four.now in
    let first = step_of First IsPropagated WhyFirst four.constants.input four.constants c.args.first refl are.0 in
    subst (λ told. IsAlone four told) (sym c.in_order.ensures)
    (judged_of four.constants.input (offers_of four) c.args.first c.chained-second.result c.chained-third.result c.chained-fourth.result
    first (c.chained-second.ensures are.1) (c.chained-third.ensures are.2) (c.chained-fourth.ensures are.3))
