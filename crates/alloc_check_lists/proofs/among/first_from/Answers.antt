-- Why the loop of `first_from` over `low` keeps the invariant.
use Rattle.std.proofs.Common.{◌+◌, ◌-◌, ◌/◌, ◌≤◌, arith}
use Rattle.alloc_check_lists.proofs.Searches.{go_up, go_down}
use Rattle.alloc_check_lists.proofs.among.first_from.Goals as goal

pub loop-low-preserved-then-rank-least : goal.loop-low-preserved-then-rank-least
loop-low-preserved-then-rank-least c =
    go_up c.args.equations.now c.args.least c.loop-low.low c.loop-low.high (c.loop-low.low + (c.loop-low.high - c.loop-low.low) / 2) c.requires c.loop-low.invariant _ (omega arith) (omega (arith, c.loop-low-test.true)) (rw c.rank.ensures.rank at c.if-rank-least.true)

pub loop-low-preserved : goal.loop-low-preserved
loop-low-preserved c =
    go_down c.args.equations.now c.args.least c.loop-low.low c.loop-low.high (c.loop-low.low + (c.loop-low.high - c.loop-low.low) / 2) c.requires c.loop-low.invariant _ (omega arith) (omega (arith, c.loop-low-test.true)) (let more : c.args.least ≤ c.rank.result = omega (arith, c.if-rank-least.false) in rw c.rank.ensures.rank at more)
