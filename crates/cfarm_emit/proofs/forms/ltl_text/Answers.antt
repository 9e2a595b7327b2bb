-- The third outputs of offers that are made.
use Rattle.std.proofs.Common.{ap, ◌∙◌, subst}
use Rattle.std.proofs.lemmas.Result.{IfOk-weaker}
use Rattle.lang.specs.Form.{program_text}
use Rattle.ltl.specs.Spelling.{spelling}
use Rattle.cfarm_emit.specs.Made.{AreMade, third_program}
use Rattle.cfarm_emit.proofs.Making.{as_many_from}
use Rattle.cfarm_emit.proofs.forms.ltl_text.Goals as goal

pub thirds_text-requires-clause-many : goal.thirds_text-requires-clause-many
thirds_text-requires-clause-many c =
    as_many_from c.as_slice.result.now c.args.begun.now c.args.seed c.in-Ok.offers.items c.deref.result.now c.as_slice.ensures c.deref.ensures.value c.in-Ok.ensures

pub returns-in-Ok : goal.returns-in-Ok
returns-in-Ok c =
    let begun = c.args.begun.now in
    let offers = c.in-Ok.offers.items in
    let made = subst (λ fs. AreMade fs c.args.seed offers) c.as_slice.ensures c.in-Ok.ensures in
    IfOk-weaker c.thirds_text.result _ _
    (λ bytes text. record { offers = offers; made = made; text = text ∙ ap (λ os. program_text 3 spelling (third_program begun os)) c.deref.ensures.value }) c.thirds_text.ensures
