-- Why `constant` meets its contract.
use Rattle.oracle_graphs.proofs.plans.constant.Goals as goal

pub returns : goal.returns
returns c =
    let to = c.target_of-to.ensures in
    record { first = tt; second = tt; act = (to.register, c.ranges.word.fits); after = to.step }
