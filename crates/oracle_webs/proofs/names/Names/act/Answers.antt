-- Why `act` meets its contract.
use Rattle.oracle_webs.proofs.names.Names.act.Goals as goal

pub returns-in-Operate : goal.returns-in-Operate
returns-in-Operate c = λ registers fit. (c.defined-in-Operate.ensures, c.arguments.ensures registers _ (rw c.in-Operate.is at fit).1)
