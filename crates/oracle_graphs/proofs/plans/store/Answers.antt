-- Why `store` meets its contract.
use Rattle.oracle_graphs.proofs.plans.store.Goals as goal

pub returns : goal.returns
returns c = λ global.
    let at = c.source_of-at.ensures in
    let from = c.source_of-from.ensures in
    record { first = at.step; second = from.step; act = (global, at.register, from.register); after = tt }
