use Rattle.farm_nodes_threads.specs.Nodes.{NodeCameBack}
use Rattle.worked_farm.proofs.Thirds.{third_stays}
use Rattle.worked_farm.proofs.turning.turned.Goals as goal

pub returns-in-Ok-clause-third : goal.returns-in-Ok-clause-third
returns-in-Ok-clause-third g c digest third =
    third_stays (λ n. n.log) (NodeCameBack g.D.Disk 10000) (λ n m came. came.1.header) digest c.args.nodes.items c.in-Ok.after.items c.in-Ok.ensures.came third
