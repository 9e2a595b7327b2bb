-- Why `live_equations` meets its clauses `live` and `accepted`.
use Rattle.alloc_check.proofs.Live.{live_rows, live_accepted}
use Rattle.alloc_check.proofs.base.live_equations.Goals as goal

pub returns-clause-live : goal.returns-clause-live
returns-clause-live c =
    rw (c.in_ok-rows.ensures, c.as_slice-2.ensures.value, c.as_slice.ensures.value)
    (live_rows c.args.input.now c.in_ok-feeders.feeders.items c.in_ok-feeders.ensures c.in_ok-live.live.items c.requires c.nodes-nodes.ensures.in_range c.in_ok-live.ensures)

pub returns-clause-accepted : goal.returns-clause-accepted
returns-clause-accepted c =
    rw (c.in_ok-rows.ensures, c.as_slice-2.ensures.value, c.as_slice.ensures.value)
    (live_accepted c.args.input.now c.in_ok-feeders.feeders.items c.in_ok-feeders.ensures c.in_ok-live.live.items c.requires c.nodes-nodes.ensures.in_range c.in_ok-live.ensures)
