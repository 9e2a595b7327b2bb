-- Why `tell_line` meets its clause `told`.
use Rattle.std.proofs.Common.{refl, inr}
use Rattle.cfarm_program_status.proofs.Answering.{told_behind}
use Rattle.cfarm_program_status.proofs.telling.tell_line.Goals as goal

pub returns-in-Ok-clause-told : goal.returns-in-Ok-clause-told
returns-in-Ok-clause-told g c = λ text e. told_behind _ _ _ _ text c.args.behind.now c.args.status _ e c.in-Ok.ensures.written c.tell_behind.ensures.told

pub returns-in-Err-clause-told : goal.returns-in-Err-clause-told
returns-in-Err-clause-told g c = λ text e. inr (refl, c.in-Err.ensures.failed)
