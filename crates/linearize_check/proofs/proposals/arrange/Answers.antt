-- Why `arrange` meets its clause `laid_out`.
use Rattle.linearize_check_proof.specs.Orders.{IsOrder}
use Rattle.linearize_check.proofs.Verdicts.{laid_out-by_order}
use Rattle.linearize_check.proofs.proposals.arrange.Goals as goal

pub returns-clause-laid_out : goal.returns-clause-laid_out
returns-clause-laid_out c =
    let allowed : IsOrder c.args.input.now c.args.nodes.items = rw c.as_slice.ensures.value at (c.in_ok-is_order.ensures.0 c.if-not-branch.false) in
    rw (c.from_vec.ensures, c.in_ok-output.ensures, c.as_slice-2.ensures.value) (laid_out-by_order c.args.input.now c.args.nodes.items allowed)
