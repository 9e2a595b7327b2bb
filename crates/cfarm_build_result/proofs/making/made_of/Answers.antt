-- The report tells the digest of the bytes that are made.
use Rattle.std.proofs.Common.{subst}
use Rattle.std.specs.String.{string_bytes}
use Rattle.cfarm_build_result.specs.Made.{IsReportAt}
use Rattle.cfarm_build_result.specs.Told.{function_names}
use Rattle.cfarm_build_result.proofs.making.made_of.Goals as goal

pub returns-in-Ok-reported-clause-made : goal.returns-in-Ok-reported-clause-made
returns-in-Ok-reported-clause-made g c = record {
  text = c.in-Ok.ensures;
  bundled = c.in-Ok-bundle_of.ensures.links;
  report = subst (λ bytes. IsReportAt (function_names c.args.source.now) c.args.seats.now bytes c.args.nodes (string_bytes c.in-Ok-reported.report))
      c.deref.ensures.value c.in-Ok-reported.ensures;
}
