-- The bundle of offers is that of their texts.
use Rattle.std.proofs.Common.{arith, ap, length, refl}
use Rattle.std.proofs.lemmas.List.{length-map}
use Rattle.bundle_reading.specs.Texts.{texts_of}
use Rattle.cfarm_emit.proofs.Outputs.{bundle_of}
use Rattle.cfarm_emit.proofs.forms.offers_text.Goals as goal

pub written-requires-clause-few : goal.written-requires-clause-few
written-requires-clause-few c = omega (arith, c.requires.few, ap length c.in_ok-texts.ensures.texts, length-map c.args.offers.now texts_of)

pub returns-in-Ok : goal.returns-in-Ok
returns-in-Ok c =
    let texts = c.in_ok-texts in
    bundle_of c.in-Ok.bytes.items c.args.digest.now c.args.digest.now texts.texts.items c.args.offers.now refl texts.ensures.texts texts.ensures.fit c.in-Ok.ensures.form c.in-Ok.ensures.text
