-- Why `print_line` meets its clause `does`.
use Rattle.std.specs.Prelude.{codes}
use Rattle.std.proofs.Common.{refl, inl, inr}
use Rattle.cfarm_program_status.specs.Telling.{quiet, unwritten}
use Rattle.cfarm_program_looks.proofs.vouching.print_line.Goals as goal

pub returns-in-Ok-clause-does : goal.returns-in-Ok-clause-does
returns-in-Ok-clause-does g c = (quiet, inl (c.in-Ok.ensures.printed, refl), (refl, refl))

pub returns-in-Err-clause-does : goal.returns-in-Err-clause-does
returns-in-Err-clause-does g c = (unwritten, inr (c.in-Err.ensures.begun, refl), c.tell.ensures.told (codes "write 701") refl)
