-- Why `act` meets its clause `meaning` at an `if`.
use Rattle.c_faults_run.proofs.acting.act.Goals as goal

pub returns-in-If-clause-meaning : goal.returns-in-If-clause-meaning
returns-in-If-clause-meaning c =
    rw (c.in-If.is, ← c.deref.ensures, ← c.deref-in-If.ensures) (rw c.others-in-If.ensures at c.choose.ensures.meaning)
