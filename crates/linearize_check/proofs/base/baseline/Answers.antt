-- Why `baseline` meets its clause `laid_out`.
use Rattle.linearize_check.proofs.Verdicts.{laid_out-by_order}
use Rattle.linearize_check.proofs.base.baseline.Goals as goal

pub returns-clause-laid_out : goal.returns-clause-laid_out
returns-clause-laid_out c =
    rw (c.from_vec.ensures, c.in_ok-output.ensures, c.as_slice.ensures.value) (laid_out-by_order c.args.input.now c.in_ok-nodes.nodes.items c.in_ok-nodes.ensures.allowed)
