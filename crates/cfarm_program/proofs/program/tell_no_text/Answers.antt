-- Why `tell_no_text` meets its clause `told`.
use Rattle.std.specs.Prelude.{codes}
use Rattle.std.proofs.Common.{refl}
use Rattle.cfarm_program.proofs.program.tell_no_text.Goals as goal

pub returns-clause-told : goal.returns-clause-told
returns-clause-told g c = c.tell.ensures.told (codes "error: the words of the command line are not UTF-8") refl
