-- Why `is_order` meets its contract.
use Rattle.linearize_check.proofs.Verdicts.{order-exact}
use Rattle.linearize_check.proofs.proposals.is_order.Goals as goal

pub returns : goal.returns
returns c =
    order-exact c.args.input.now c.args.nodes.now c.in_ok-disordered.disordered c.is_none.result c.is_none.ensures (c.lists_nodes.ensures.0 c.if-not-lists_nodes.false) (rw (c.as_slice.ensures, c.blocks-2.ensures.blocks) at c.in_ok-disordered.ensures)
