-- Why `plan_of` meets its contract.
use Rattle.oracle_graphs.proofs.plans.plan_of.Goals as goal

pub returns-in-Move : goal.returns-in-Move
returns-in-Move c = λ registers fit. c.copying.ensures _ c.location_of.ensures c.location_of-in-Move.ensures

pub returns-in-Operate : goal.returns-in-Operate
returns-in-Operate c = λ registers fit. c.operation.ensures registers (rw c.in-Operate.is at fit).1
