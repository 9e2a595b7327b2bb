use Rattle.std.proofs.Common.{◌∙◌}
use Rattle.alloc_check.proofs.OwnRows.{row_next}
use Rattle.alloc_check.proofs.lists.own_rows.Goals as goal

pub loop-n-preserved : goal.loop-n-preserved
loop-n-preserved c =
    row_next c.args.feeders.now c.args.lists.now c.loop-n.n _ c.as_slice.result.now (c.as_slice.ensures ∙ c.index-lists-n.is) c.loop-n-test.true c.loop-n.rows.items c.push_own.new.rows.items _ c.in_ok-push_own.ensures c.loop-n.invariant
