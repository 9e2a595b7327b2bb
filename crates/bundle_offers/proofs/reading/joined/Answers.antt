-- The parts of all four, or a text that spells none.
use Rattle.std.proofs.Common.{sym, subst}
use Rattle.constprop_check_rules.specs.Rules.{IsPropagated}
use Rattle.cse_check_rules.specs.Rules.{IsEliminated}
use Rattle.bundle_reading.specs.Allocated.{IsAllocated}
use Rattle.linearize_check_proof.specs.Rules.{IsLaidOut}
use Rattle.bundle_reading.specs.Read as read
use Rattle.bundle_reading.proofs.Readings.{each_found, four_read}
use Rattle.bundle_offers.specs.declared.fault.PassNumber.TheVariants.{First, Second, Third, Fourth}
use Rattle.bundle_offers.specs.Reasons.{WhyFirst, WhySecond, WhyThird, WhyFourth}
use Rattle.bundle_offers.proofs.Standings.{accepted_if}
use Rattle.bundle_offers.proofs.reading.joined.Goals as goal

pub returns-in-Ok : goal.returns-in-Ok
returns-in-Ok c = λ t front back.
    let one = c.args.front.0 in
    let two = c.args.front.1 in
    let three = c.args.back.0 in
    let four = c.args.back.1 in
    let parts = c.in-Ok.four in
    let found = four_read t one.0 two.0 three.0 four.0 front.0.0 front.1.0 back.0.0 back.1.0 in
    let each = each_found one.0 two.0 three.0 four.0 parts (sym c.in-Ok.ensures) in (
      subst (λ r. read.IsFound t r) (sym c.in-Ok.ensures) found,
      c.told_of-told.ensures (
        accepted_if First IsPropagated WhyFirst one.0 one.1 parts.constants front.0.1 each.0,
        accepted_if Second IsEliminated WhySecond two.0 two.1 parts.expressions front.1.1 each.1,
        accepted_if Third IsAllocated WhyThird three.0 three.1 parts.allocation back.0.1 each.2,
        accepted_if Fourth IsLaidOut WhyFourth four.0 four.1 parts.order back.1.1 each.3,
      ),
    )

pub returns-in-Err : goal.returns-in-Err
returns-in-Err c = λ t front back.
    let one = c.args.front.0 in
    let two = c.args.front.1 in
    let three = c.args.back.0 in
    let four = c.args.back.1 in
    (subst (λ r. read.IsFound t r) (sym c.in-Err.ensures) (four_read t one.0 two.0 three.0 four.0 front.0.0 front.1.0 back.0.0 back.1.0), tt)
