-- Why the cause of a run that went wrong is what `explain` tells of it.
use Rattle.std.proofs.Common.{◌≡◌, inr, subst, sym, ◌∙◌, string_bytes}
use Rattle.std.specs.Prelude.{Some}
use Rattle.cfarm_explain.specs.Explained as run
use Rattle.cfarm_program_runs.proofs.doing.cause_of.Goals as goal

pub returns-in-Ok-to_string : goal.returns-in-Ok-to_string
returns-in-Ok-to_string c =
    let same : string_bytes c.in-Ok-to_string.cause ≡ c.in-Ok-Some.lines =
    c.in-Ok-to_string.ensures.ok ∙ (c.in-Ok.ensures.cases.0 ∙ c.as_slice.ensures) in
    let told : run.IsExplained c.as_bytes.result.now c.args.text.now c.args.depth c.in-Ok-Some.field-0 = c.in-Ok-Some.ensures.told in
    let filled : run.IsExplained c.as_bytes.result.now c.args.text.now c.args.depth (Some c.in-Ok-Some.lines) =
    subst (λ t. run.IsExplained c.as_bytes.result.now c.args.text.now c.args.depth t) c.in-Ok-Some.field-0-is told in
    let named : run.IsExplained c.args.path.now c.args.text.now c.args.depth (Some c.in-Ok-Some.lines) =
    subst (λ p. run.IsExplained p c.args.text.now c.args.depth (Some c.in-Ok-Some.lines)) c.as_bytes.ensures.value filled in
    inr (subst (λ t. run.IsExplained c.args.path.now c.args.text.now c.args.depth (Some t)) (sym same) named)
