-- Why `tell_checked` meets its clause `told`.
use Rattle.std.proofs.Common.{refl}
use Rattle.cfarm_program_runs.specs.Outcomes.{text_fault}
use Rattle.cfarm_program_runs.proofs.doing.tell_checked.Goals as goal

pub returns-in-Plain-clause-told : goal.returns-in-Plain-clause-told
returns-in-Plain-clause-told g c = rw c.in-Plain.is (text_fault c.args.fault, refl, c.tell_fault.ensures.told)

pub returns-in-Gcc-clause-told : goal.returns-in-Gcc-clause-told
returns-in-Gcc-clause-told g c = rw c.in-Gcc.is c.tell_placed.ensures.told

pub returns-in-Json-clause-told : goal.returns-in-Json-clause-told
returns-in-Json-clause-told g c = rw c.in-Json.is c.tell_object.ensures.told
