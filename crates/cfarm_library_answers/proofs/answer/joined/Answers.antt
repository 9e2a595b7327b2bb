-- The line stands behind what was written.
use Rattle.std.proofs.Common.{length, refl, ap}
use Rattle.cfarm_library_answers.proofs.Joined.{line_told, untold}
use Rattle.cfarm_library_answers.proofs.answer.joined.Goals as goal

pub returns-in-Ok : goal.returns-in-Ok
returns-in-Ok g c =
    line_told (g.D.Display.output c.args.line) c.args.status c.args.output.items _ _ _ _ refl refl (ap length c.as_slice-written.ensures.value)
    c.in-Ok.ensures.bytes

pub returns-in-Err : goal.returns-in-Err
returns-in-Err g c = untold (g.D.Display.output c.args.line) c.args.status c.args.output.items c.no_memory.result c.no_memory.ensures
