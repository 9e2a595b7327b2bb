-- Why `play` meets its clause `does`.
use Rattle.cfarm_program_runs.proofs.simulating.play.Goals as goal

pub returns-in-Lines-clause-does : goal.returns-in-Lines-clause-does
returns-in-Lines-clause-does g c = rw c.in-Lines.is c.lines.ensures.does

pub returns-in-Drawing-clause-does : goal.returns-in-Drawing-clause-does
returns-in-Drawing-clause-does g c = rw c.in-Drawing.is c.picture.ensures.does
