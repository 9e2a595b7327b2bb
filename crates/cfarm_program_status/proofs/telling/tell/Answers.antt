-- Why `tell` meets its clause `told`.
use Rattle.cfarm_program_status.proofs.Answering.{told_line, untold_line}
use Rattle.cfarm_program_status.proofs.telling.tell.Goals as goal

pub returns-in-Ok-clause-told : goal.returns-in-Ok-clause-told
returns-in-Ok-clause-told g c = λ text e. told_line _ text c.args.status _ _ e c.in-Ok.ensures.written

pub returns-in-Err-clause-told : goal.returns-in-Err-clause-told
returns-in-Err-clause-told g c = λ text e. untold_line text c.args.status _ _ c.in-Err.ensures.failed
