-- Why `read_and_perform` meets its clause `does`.
use Rattle.std.proofs.Common.{refl, inl, inr}
use Rattle.cfarm_program.proofs.Placing.{keeps_files}
use Rattle.cfarm_program.proofs.running.read_and_perform.Goals as goal

pub returns-in-Ok-clause-does : goal.returns-in-Ok-clause-does
returns-in-Ok-clause-does g c = inl (c.in-Ok.bytes.items, c.in-Ok.ensures, rw c.deref.ensures.value at c.perform.ensures.does)

pub returns-in-Err-clause-does : goal.returns-in-Err-clause-does
returns-in-Err-clause-does g c = inr (c.in-Err.fault, c.in-Err.ensures, (keeps_files _ _, refl, c.tell_unread.ensures.told))
