-- The program that offers link that are made.
use Rattle.std.proofs.Common.{subst}
use Rattle.std.proofs.lemmas.Result.{IfOk-weaker}
use Rattle.c_checker_rules.specs.Checked.{program_tree}
use Rattle.cfarm_emit.specs.Made.{AreMade, IsLinked}
use Rattle.cfarm_emit.proofs.forms.linear_text.Goals as goal

pub returns-in-Ok : goal.returns-in-Ok
returns-in-Ok c =
    let begun = c.args.begun.now in
    let offers = c.in-Ok.offers.items in
    let made = subst (λ fs. AreMade fs c.args.seed offers) c.as_slice.ensures c.in-Ok.ensures in
    IfOk-weaker c.program_text.result _ _
    (λ bytes linked. record { offers = offers; made = made; linked = subst (λ os. IsLinked (program_tree c.args.program.now) begun os bytes.items) c.deref.ensures.value linked })
    c.program_text.ensures
