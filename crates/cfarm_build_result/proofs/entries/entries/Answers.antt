-- One more function.
use native.Mathlib.Numerals.{unary_clauses}
use Rattle.serde_json.specs.View.{view}
use Rattle.cfarm_build_result.specs.Report.{entry_of}
use Rattle.cfarm_build_result.proofs.Lists.{map_next}
use Rattle.cfarm_build_result.proofs.entries.entries.Goals as goal

pub loop-number-preserved : goal.loop-number-preserved
loop-number-preserved c =
    let done = c.loop-number in
    let next = map_next view entry_of done.values.items _ c.args.functions.now done.number c.index-functions-number.result
    c.loop-number-test.true c.index-functions-number.is done.invariant c.in_ok-value.ensures in
    rw c.in_ok-push.ensures.items (simp unary_clauses next)
