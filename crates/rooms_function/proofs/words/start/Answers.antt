-- Why `start` meets its clause `acted`.
use Rattle.rooms.proofs.Told.{acted_start}
use Rattle.rooms_function.proofs.words.start.Goals as goal

pub returns-clause-acted : goal.returns-clause-acted
returns-clause-acted c =
    acted_start c.args.words.now c.start.new.self c.start.result c.bounds.ensures.sizes c.bounds.ensures.number c.start.ensures.ok c.start.ensures.spent c.start.ensures.err
