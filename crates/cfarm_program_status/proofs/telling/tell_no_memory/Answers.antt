-- Why `tell_no_memory` meets its clause `told`.
use Rattle.std.specs.Prelude.{codes}
use Rattle.std.proofs.Common.{refl}
use Rattle.cfarm_program_status.proofs.telling.tell_no_memory.Goals as goal

pub returns-clause-told : goal.returns-clause-told
returns-clause-told g c = c.tell.ensures.told (codes "memory") refl
