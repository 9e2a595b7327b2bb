-- What was put is the version.
use Rattle.cfarm_library_answers.specs.Outcomes.{Versioned}
use Rattle.cfarm_library.proofs.Carried.{carried}
use Rattle.cfarm_library.proofs.looking.cfarm_version.Goals as goal

pub returns : goal.returns
returns c = carried _ _ _ _ _ _ c.put.ensures.status c.put.ensures.bytes c.put.ensures.written Versioned c.version.ensures
