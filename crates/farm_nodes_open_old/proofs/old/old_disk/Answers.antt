-- Two calls on the old disk.
use Rattle.std.proofs.Common.{List, sym, subst, ◌∙◌}
use Rattle.farm_nodes_open_old.proofs.OldRead.{both_ways, same_left, same_synced, same_over, run_by, run_then}
use Rattle.farm_nodes_open_old.proofs.old.old_disk.Goals as goal

pub returns-in-Err-clause-same : goal.returns-in-Err-clause-same
returns-in-Err-clause-same g c whole = same_left g.P.Disk g.P.Pair c.args.pair.now c.sync_old.new.self (c.in-Err.ensures.left whole)

pub returns-in-Err-clause-any_moment : goal.returns-in-Err-clause-any_moment
returns-in-Err-clause-any_moment g c whole =
    run_by g.P.Disk g.P.Pair c.args.pair.now c.sync_old.new.self (λ im. g.met.P.Pair.both_only c.args.pair.now im whole)
    (same_left g.P.Disk g.P.Pair c.args.pair.now c.sync_old.new.self (c.in-Err.ensures.left whole)) (c.in-Err.ensures.left whole).time

pub returns-in-Ok-clause-whole : goal.returns-in-Ok-clause-whole
returns-in-Ok-clause-whole g c = both_ways c.look_at_old.ensures.whole c.sync_old.ensures.whole

pub returns-in-Ok-clause-same : goal.returns-in-Ok-clause-same
returns-in-Ok-clause-same g c whole =
    let disk = g.P.Disk in
    let pair = g.P.Pair in
    let p = c.args.pair.now in
    let q = c.sync_old.new.self in
    same_over disk pair p q c.look_at_old.new.pair (same_synced disk pair p q (g.met.P.Pair.both_as_seen p whole).1 (c.in-Ok.ensures.done whole))
    (same_left disk pair q c.look_at_old.new.pair (c.look_at_old.ensures.left (c.sync_old.ensures.whole.1 whole)))

pub returns-in-Ok-clause-any_moment : goal.returns-in-Ok-clause-any_moment
returns-in-Ok-clause-any_moment g c whole =
    let disk = g.P.Disk in
    let pair = g.P.Pair in
    let p = c.args.pair.now in
    let q = c.sync_old.new.self in
    let run = run_by disk pair p q (λ im. g.met.P.Pair.both_only p im whole) (same_synced disk pair p q (g.met.P.Pair.both_as_seen p whole).1 (c.in-Ok.ensures.done whole)) (c.in-Ok.ensures.done whole).time in
    run_then disk pair p q c.look_at_old.new.pair run (returns-in-Ok-clause-same g c whole) (c.look_at_old.ensures.left (c.sync_old.ensures.whole.1 whole)).time
