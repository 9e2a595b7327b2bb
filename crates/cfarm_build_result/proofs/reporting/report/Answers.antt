-- The value that is written has no number but whole ones.
use Rattle.std.proofs.Common.{ap, ◌∙◌}
use Rattle.std.proofs.lemmas.Result.{IfOk-weaker}
use Rattle.sha2.specs.Sha256.{sha256}
use Rattle.serde_json.specs.Written.{compact_text, has_float}
use Rattle.cfarm_build_result.proofs.Floats.{report_whole}
use Rattle.cfarm_build_result.proofs.reporting.report.Goals as goal

pub returns : goal.returns
returns c =
    let value = c.in_ok-value.ensures in
    let whole = ap has_float value ∙ report_whole c.args.functions.now (sha256 c.args.linked.now) c.args.nodes in
    IfOk-weaker c.to_string.result _ _ (λ text written. written whole ∙ ap compact_text value) c.to_string.ensures.text
