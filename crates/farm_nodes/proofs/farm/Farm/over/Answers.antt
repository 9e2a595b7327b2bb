-- Why `over` meets its clauses `fit` and `refused`, and it may call `open_nodes`.
use Rattle.std.proofs.Common.{arith}
use Rattle.farm_nodes_threads.specs.Fours.{fours_of}
use Rattle.farm_nodes_link.specs.Held.{IsSoundNode}
use Rattle.farm_nodes_link.specs.Waiting.{IsWaiting}
use Rattle.farm_nodes.proofs.Fit.{all_both}
use Rattle.farm_nodes.proofs.farm.Farm.over.Goals as goal

pub returns-in-Ok-clause-fit : goal.returns-in-Ok-clause-fit
returns-in-Ok-clause-fit g c =
    let disk = g.P.Disk in
    all_both (λ n. IsSoundNode disk n.log (fours_of n.seats.items) n.halted)
    (λ n. IsWaiting n.seats.items n.halted)
    c.in-Ok.nodes.items c.in-Ok.ensures.sound c.in-Ok.ensures.waiting

pub returns-in-Err-clause-refused : goal.returns-in-Err-clause-refused
returns-in-Err-clause-refused g c =
    let told = c.in-Err.ensures in
    record { returned = told.back; journal = told.journal; refused = told.refused; unopened = told.unopened }

pub open_nodes-opened-requires-clause-workers : goal.open_nodes-opened-requires-clause-workers
open_nodes-opened-requires-clause-workers g c κs within = omega (arith, c.from-workers.ensures, c.nodes.ensures.value, c.nodes.ensures.sizes.least)
