-- Why `put_into_none` meets its contract.
use Rattle.oracle_graphs.proofs.plans.put_into_none.Goals as goal

pub returns : goal.returns
returns c =
    let from = c.source_of-from.ensures in
    record { first = from.step; second = tt; act = (from.register, tt); after = tt }
