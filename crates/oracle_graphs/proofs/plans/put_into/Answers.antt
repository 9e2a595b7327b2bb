-- Why `put_into` meets its contract.
use Rattle.oracle_graphs.proofs.plans.put_into.Goals as goal

pub returns : goal.returns
returns c =
    let to = c.target_of-to.ensures in
    let from = c.source_of-from.ensures in
    record { first = from.step; second = tt; act = (from.register, to.register); after = to.step }
