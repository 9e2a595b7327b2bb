-- Why the loop of `are_distinct` over `i` keeps the invariant.
use Rattle.std.proofs.Common.{refl}
use Rattle.oracle_graphs.proofs.Distinct.{distinct_more}
use Rattle.oracle_graphs.proofs.parameters.are_distinct.Goals as goal

pub loop-i-preserved : goal.loop-i-preserved
loop-i-preserved c = distinct_more c.args.locations.now c.loop-i.i _ c.loop-i-test.true c.loop-i.invariant (c.if-not-is_none.ensures.0 refl)
