-- Why `operation` meets its contract.
use Rattle.oracle_graphs.proofs.plans.operation.Goals as goal

pub returns : goal.returns
returns c = λ registers fit.
    let to = c.target_of-to.ensures in
    let taken = c.operands-taken.ensures registers _ fit in
    record { first = taken.first; second = taken.second; act = (to.register, taken.arguments); after = to.step }
