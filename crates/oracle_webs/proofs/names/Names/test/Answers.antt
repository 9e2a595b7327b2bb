-- Why `test` meets its contract.
use Rattle.oracle_webs.proofs.names.Names.test.Goals as goal

pub returns : goal.returns
returns c = λ registers fit. c.arguments.ensures registers _ fit
