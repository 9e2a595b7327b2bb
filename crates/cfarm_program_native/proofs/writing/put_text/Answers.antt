-- Why `put_text` meets its clause `does`.
use Rattle.std.proofs.Common.{refl, inl, inr}
use Rattle.cfarm_program_status.specs.Reading.{unread}
use Rattle.cfarm_program_status.specs.Telling.{quiet}
use Rattle.cfarm_program_native.proofs.writing.put_text.Goals as goal

pub returns-in-Ok-clause-does : goal.returns-in-Ok-clause-does
returns-in-Ok-clause-does g c = (quiet, inl (c.in-Ok.ensures.whole, refl), (refl, refl))

pub returns-in-Err-clause-does : goal.returns-in-Err-clause-does
returns-in-Err-clause-does g c =
    let fault = c.in-Err.fault in
    (unread c.args.target.now fault, inr (c.in-Err.ensures.whole, (fault, refl)), c.tell_unread.ensures.told)
