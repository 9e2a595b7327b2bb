-- What is told of the functions, in the report.
use Rattle.std.proofs.Common.{ap, ◌∙◌}
use Rattle.sha2.specs.Sha256.{sha256}
use Rattle.serde_json.specs.Written.{compact_text}
use Rattle.cfarm_build_result.specs.Report.{report_of}
use Rattle.cfarm_build_result.proofs.making.reported.Goals as goal

pub returns-in-Ok-report : goal.returns-in-Ok-report
returns-in-Ok-report g c = record {
  functions = c.in-Ok.functions.items;
  told = c.in-Ok.ensures;
  text = c.in-Ok-report.ensures ∙ ap (λ functions. compact_text (report_of functions (sha256 c.args.bytes.now) c.args.nodes)) c.deref.ensures.value;
}
