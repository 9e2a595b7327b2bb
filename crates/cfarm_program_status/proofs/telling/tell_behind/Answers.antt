-- Why `tell_behind` meets its clause `told`.
use Rattle.std.proofs.Common.{refl, inl, inr}
use Rattle.cfarm_program_status.proofs.telling.tell_behind.Goals as goal

pub returns-in-Ok-clause-told : goal.returns-in-Ok-clause-told
returns-in-Ok-clause-told g c = inl (refl, c.in-Ok.ensures.written)

pub returns-in-Err-clause-told : goal.returns-in-Err-clause-told
returns-in-Err-clause-told g c = inr (refl, c.in-Err.ensures.failed)
