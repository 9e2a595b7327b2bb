-- Why `start` meets its clauses `answer`, `spent` and `acted`.
use Rattle.rooms_seat.proofs.Told.{acted_start}
use Rattle.rooms.proofs.Starts.{spent_told, start_told}
use Rattle.rooms.proofs.seat.Seat.start.Goals as goal

pub returns-clause-answer : goal.returns-clause-answer
returns-clause-answer g c = rw (← c.self.view_is) (start_told _ c.self.inside.words c.start.result c.start.ensures.ok c.start.ensures.spent)

pub returns-clause-spent : goal.returns-clause-spent
returns-clause-spent g c = rw (← c.self.view_is) (spent_told _ c.self.inside.words c.start.result c.start.ensures.ok c.start.ensures.spent)

pub returns-clause-acted : goal.returns-clause-acted
returns-clause-acted g c =
    rw (← c.self.view_is)
    (acted_start c.self.inside.words c.start.new.self c.start.result c.bounds.ensures.sizes c.bounds.ensures.number c.start.ensures.ok c.start.ensures.spent c.start.ensures.err)
