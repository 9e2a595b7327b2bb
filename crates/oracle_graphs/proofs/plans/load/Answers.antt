-- Why `load` meets its contract.
use Rattle.oracle_graphs.proofs.plans.load.Goals as goal

pub returns : goal.returns
returns c = λ global.
    let to = c.target_of-to.ensures in
    let from = c.source_of-from.ensures in
    record { first = from.step; second = tt; act = (to.register, global, from.register); after = to.step }
