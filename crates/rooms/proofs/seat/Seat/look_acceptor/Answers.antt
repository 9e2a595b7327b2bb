-- Why `look_acceptor` meets its clause `notes`.
use Rattle.rooms_seat.proofs.Told.{notes_of}
use Rattle.rooms.proofs.seat.Seat.look_acceptor.Goals as goal

pub returns-clause-notes : goal.returns-clause-notes
returns-clause-notes g c =
    rw (← c.self.view_is) (notes_of c.args.j c.look_acceptor.result c.self.inside.words c.look_acceptor.new.self c.look_acceptor.ensures)
