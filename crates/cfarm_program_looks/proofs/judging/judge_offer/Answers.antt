-- Why `judge_offer` meets its clause `does`.
use Rattle.std.proofs.Common.{refl, Ok, Err}
use Rattle.cfarm_program_status.specs.Reading.{unread}
use Rattle.cfarm_program_looks.proofs.judging.judge_offer.Goals as goal

pub returns-in-Ok-clause-does : goal.returns-in-Ok-clause-does
returns-in-Ok-clause-does g c =
    let it = rw c.deref.ensures.value at c.judge_bytes.ensures.does in
    (it.0, (Ok c.in-Ok.offer.items, c.in-Ok.ensures, it.1), it.2)

pub returns-in-Err-clause-does : goal.returns-in-Err-clause-does
returns-in-Err-clause-does g c =
    let fault = c.in-Err.fault in
    (unread c.args.path.now fault, (Err fault, c.in-Err.ensures, (refl, refl)), c.tell_unread.ensures.told)
