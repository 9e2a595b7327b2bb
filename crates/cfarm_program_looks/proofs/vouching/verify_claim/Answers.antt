-- Why `verify_claim` meets its clause `does`.
use Rattle.std.proofs.Common.{refl, Ok, Err}
use Rattle.cfarm_program_status.specs.Reading.{unread}
use Rattle.cfarm_program_looks.proofs.vouching.verify_claim.Goals as goal

pub returns-in-None-clause-does : goal.returns-in-None-clause-does
returns-in-None-clause-does g c = rw c.in-None.is c.verify_bytes.ensures.does

pub returns-in-Ok-clause-does : goal.returns-in-Ok-clause-does
returns-in-Ok-clause-does g c =
    let it = rw c.deref.ensures.value at c.vouch.ensures.does in
    rw c.in-Some.is (it.0, (Ok c.in-Ok.native.items, c.in-Ok.ensures, it.1), it.2)

pub returns-in-Err-clause-does : goal.returns-in-Err-clause-does
returns-in-Err-clause-does g c =
    let fault = c.in-Err.fault in
    rw c.in-Some.is (unread c.in-Some.path.now fault, (Err fault, c.in-Err.ensures, (refl, refl)), c.tell_unread.ensures.told)
