-- Why `tell_unread` meets its clause `told`.
use Rattle.std.proofs.Common.{refl}
use Rattle.cfarm_program_status.proofs.unread.tell_unread.Goals as goal

pub returns-in-NoMemory-clause-told : goal.returns-in-NoMemory-clause-told
returns-in-NoMemory-clause-told g c = rw c.in-NoMemory.is c.tell_no_memory.ensures.told

pub returns-in-Refused-clause-told : goal.returns-in-Refused-clause-told
returns-in-Refused-clause-told g c = rw c.in-Refused.is (c.tell.ensures.told _ refl)
