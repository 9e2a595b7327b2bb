-- Why `check` meets its contract.
use Rattle.std.proofs.Common.{length}
use Rattle.rtl_passes_marks.proofs.Verdicts.{told-exact}
use Rattle.alloc_check_rules.specs.Rules.{IsRightAt}
use Rattle.alloc_check_proof.specs.Allocated.{filled, HasForm}
use Rattle.alloc_check_verdict.proofs.verdict.check.Goals as goal

pub returns : goal.returns
returns c =
    let input = c.args.input.now in
    let output = c.args.output.now in
    let rows = c.args.equations.now in
    told-exact (HasForm input output rows) (IsRightAt input output (filled input output rows)) (length input.nodes) c.in_ok-why.field-0 c.is_none.result c.is_none.ensures c.in_ok-why.ensures
