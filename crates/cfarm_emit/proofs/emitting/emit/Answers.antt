-- Why `emit` meets its clause `printed`.
use Rattle.cfarm_emit.proofs.emitting.emit.Goals as goal

pub returns-in-Err-clause-printed : goal.returns-in-Err-clause-printed
returns-in-Err-clause-printed g c = c.in-Err.ensures.silent (g.W.Write.contents c.args.out.now)
