-- Why `operands` meets its contract.
use Rattle.oracle_graphs.proofs.reaching.operands.Goals as goal

pub returns-in-One : goal.returns-in-One
returns-in-One c = λ registers count fit.
    let one = rw c.in-One.is at fit in
    let first = c.source_of-first.ensures in
    record { arguments = (one.0, first.register); first = first.step; second = tt }

pub returns-in-Two : goal.returns-in-Two
returns-in-Two c = λ registers count fit.
    let two = rw c.in-Two.is at fit in
    let first = c.source_of-first-in-Two.ensures in
    let second = c.source_of-second.ensures in
    record { arguments = (two.0, first.register, second.register); first = first.step; second = second.step }
