-- Why `rising` meets its clauses `rising` and `allowed`.
use Rattle.linearize_check_layout.specs.Marks.{IsMarked}
use Rattle.linearize_check_layout.specs.Reach.{IsReached}
use Rattle.linearize_check_layout.proofs.Risings.{rising-same, rising_is_order}
use Rattle.linearize_check_layout.proofs.listing.rising.Goals as goal

pub returns-clause-rising : goal.returns-clause-rising
returns-clause-rising c =
    rising-same (IsMarked c.in_ok-marks.marks.items) (IsReached c.args.function.now) c.args.function.now.entry c.in_ok-order.order.items (λ n other. c.in_ok-marks.ensures.reached n)
    (rw (c.entry.ensures, c.as_slice.ensures.value) at c.in_ok-order.ensures)

pub returns-clause-allowed : goal.returns-clause-allowed
returns-clause-allowed c = rising_is_order c.args.function.now c.blocks-in_range.ensures.in_range c.in_ok-order.order.items (returns-clause-rising c)
