-- Why `check` meets its contract.
use Rattle.std.proofs.Common.{length}
use Rattle.rtl_passes_marks.proofs.Verdicts.{told-exact}
use Rattle.rtl_passes_filled.specs.Rules.{IsRightAt}
use Rattle.rtl_passes_filled.specs.Filled.{filled_in}
use Rattle.rtl_passes_filled.specs.Accepted.{HasShape}
use Rattle.rtl_passes_facts.proofs.verdict.check.Goals as goal

pub returns : goal.returns
returns g c =
    let input = c.args.input.now in
    let output = c.args.output.now in
    let rows = c.args.rows.now in
    told-exact (HasShape g.R.Rules.rules input output rows) (IsRightAt g.R.Rules.rules input output (filled_in g.R.Rules.rules input rows)) (length input.nodes) c.in_ok-why.field-0 c.is_none.result c.is_none.ensures c.in_ok-why.ensures
