-- Why `read` meets its clause `keeps`.
use Rattle.linear_language.proofs.reading.InstructionsReadOne.read.Goals as goal

pub returns-then-note-clause-keeps : goal.returns-then-note-clause-keeps
returns-then-note-clause-keeps c = c.note.ensures.flags c.args._before.now c.requires
