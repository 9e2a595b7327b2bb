use Rattle.x86.proofs.Streams.{drawn_on}
use Rattle.x86.proofs.drawing.draw.Goals as goal

pub returns-clause-rest : goal.returns-clause-rest
returns-clause-rest c = drawn_on c.args.junk.now c.args.drawn.now
