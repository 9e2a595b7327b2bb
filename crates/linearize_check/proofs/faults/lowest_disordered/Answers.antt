-- Why `lowest_disordered` meets its contract.
use Rattle.linearize_check.specs.Faults.{IsFreshAt, IsClosedAt}
use Rattle.linearize_check.proofs.Lowest.{lowest-both}
use Rattle.linearize_check.proofs.faults.lowest_disordered.Goals as goal

pub returns : goal.returns
returns c = rw c.lesser.ensures (lowest-both (IsFreshAt c.args.order.now) (IsClosedAt c.args.blocks.now c.args.order.now) _ _ _ _ c.lowest_repeated-repeated.ensures.found c.lowest_open-open.ensures)
