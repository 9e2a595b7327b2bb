-- Why `show_text` meets its clause `does`.
use Rattle.std.proofs.Common.{refl, inl, inr}
use Rattle.cfarm_program_status.specs.Telling.{quiet}
use Rattle.cfarm_program_status.proofs.Answering.{told_by}
use Rattle.text_files.specs.Lines.{show_line}
use Rattle.cfarm_program_looks.specs.Showing.{show_fault}
use Rattle.cfarm_program_looks.proofs.showing.show_text.Goals as goal

pub returns-in-Ok-clause-does : goal.returns-in-Ok-clause-does
returns-in-Ok-clause-does g c = (quiet, inl (c.in-Ok.ensures.shown, refl), (refl, refl))

pub returns-in-Err-clause-does : goal.returns-in-Err-clause-does
returns-in-Err-clause-does g c =
    let fault = c.in-Err.fault in
    (show_fault fault, inr (fault, c.in-Err.ensures.refused, refl), told_by _ _ (show_line fault) _ _ _ c.status.ensures (c.tell.ensures.told (show_line fault) refl))
