-- Why `act` meets its clause `meaning`.
use Rattle.c_meaning.proofs.acting.act.Goals as goal

pub returns-in-If-clause-meaning : goal.returns-in-If-clause-meaning
returns-in-If-clause-meaning c = rw (c.in-If.is, ← c.deref.ensures, ← c.deref-in-If.ensures) c.choose.ensures.meaning
