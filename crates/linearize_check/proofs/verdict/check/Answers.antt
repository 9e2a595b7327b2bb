-- Why `check` meets its contract.
use Rattle.linearize_check.proofs.Verdicts.{told-exact}
use Rattle.linearize_check.proofs.verdict.check.Goals as goal

pub returns : goal.returns
returns c = told-exact c.args.input.now c.args.output.now c.args.order.now c.in_ok-why.field-0 c.is_none.result c.is_none.ensures c.in_ok-why.ensures
