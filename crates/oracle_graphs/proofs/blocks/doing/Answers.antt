-- Why `doing` meets its contract.
use Rattle.oracle_graphs.proofs.blocks.doing.Goals as goal

pub returns : goal.returns
returns c = λ registers nodes act successor. c.going-2.ensures _ _ (c.plan_of.ensures registers act) successor
