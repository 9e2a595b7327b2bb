-- What was put is what the command comes to, with lines or drawn.
use Rattle.cfarm_library.specs.Flags.{ShownAs}
use Rattle.cfarm_library.proofs.Carried.{refused}
use Rattle.cfarm_library.proofs.running.cfarm_simulate.Goals as goal

pub returns-then-is_long : goal.returns-then-is_long
returns-then-is_long c = refused _ _ _ _ _ _ c.put.ensures.status c.put.ensures.bytes c.put.ensures.written (ShownAs c.args.drawing c.args.schedule.now) c.no_memory.ensures
