-- The bundle of offers that are made.
use Rattle.std.proofs.Common.{arith, subst}
use Rattle.std.proofs.lemmas.Result.{IfOk-weaker}
use Rattle.bundle_reading.specs.Texts.{IsBundleOf}
use Rattle.cfarm_emit.specs.Made.{AreMade}
use Rattle.cfarm_emit.proofs.Making.{as_many_from}
use Rattle.cfarm_emit.proofs.forms.bundle_text.Goals as goal

pub offers_text-requires-clause-few : goal.offers_text-requires-clause-few
offers_text-requires-clause-few c =
    let many = as_many_from c.as_slice.result.now c.args.begun.now c.args.seed c.in-Ok.offers.items c.deref.result.now c.as_slice.ensures c.deref.ensures.value c.in-Ok.ensures in
    omega (arith, many, c.requires.ready.count)

pub returns-in-Ok : goal.returns-in-Ok
returns-in-Ok c =
    let offers = c.in-Ok.offers.items in
    let made = subst (λ fs. AreMade fs c.args.seed offers) c.as_slice.ensures c.in-Ok.ensures in
    IfOk-weaker c.offers_text.result _ _
    (λ bytes bundled. record { offers = offers; made = made; bundled = subst (λ os. IsBundleOf bytes.items c.args.digest.now os) c.deref.ensures.value bundled })
    c.offers_text.ensures
