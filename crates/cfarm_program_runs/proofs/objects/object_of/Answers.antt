-- The value that is written has no number but whole ones.
use Rattle.std.proofs.Common.{ap, ◌∙◌}
use Rattle.std.proofs.lemmas.Result.{IfOk-weaker}
use Rattle.serde_json.specs.Written.{compact_text, has_float}
use Rattle.cfarm_program_runs.proofs.Wholes.{fault_whole}
use Rattle.cfarm_program_runs.proofs.objects.object_of.Goals as goal

pub returns : goal.returns
returns c =
    let value = c.in_ok-value.ensures in
    let whole = ap has_float value ∙ fault_whole c.args.refusal in
    IfOk-weaker c.to_string.result _ _ (λ text written. written whole ∙ ap compact_text value) c.to_string.ensures.text
