-- What is written is the version.
use Rattle.std.proofs.Common.{refl}
use Rattle.cfarm_library_answers.specs.Outcomes.{Versioned}
use Rattle.cfarm_library_answers.proofs.Joined.{gives}
use Rattle.cfarm_library_answers.proofs.answer.version.Goals as goal

pub returns-in-Ok : goal.returns-in-Ok
returns-in-Ok c = gives Versioned c.in-Ok.bytes.items c.done.result 0 _ (c.in-Ok.ensures.items, refl, refl) c.done.ensures
