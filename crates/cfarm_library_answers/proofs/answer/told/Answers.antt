-- A writer that failed had no memory.
use Rattle.cfarm_library_answers.proofs.Joined.{untold}
use Rattle.cfarm_library_answers.proofs.answer.told.Goals as goal

pub returns-then-status-eq-UNWRITTEN : goal.returns-then-status-eq-UNWRITTEN
returns-then-status-eq-UNWRITTEN g c = untold (g.D.Display.output c.args.line) c.args.status c.args.output.items c.no_memory.result c.no_memory.ensures
