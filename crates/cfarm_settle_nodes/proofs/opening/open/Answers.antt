-- Why `open` meets its clause `seats`.
use Rattle.cfarm_settle_nodes.proofs.Nodes.{same_seats}
use Rattle.cfarm_settle_nodes.proofs.opening.open.Goals as goal

pub returns-clause-seats : goal.returns-clause-seats
returns-clause-seats g c =
    let s = c.in_ok-seats.seats in
    same_seats c.args.input.now c.new.result.seat c.new-2.result.seat c.new-3.result.seat s.0 s.1 s.2
    (c.in_ok-seats.ensures.three, c.in_ok-seats.ensures.nothing c.args.input.now) c.new.ensures.seat c.new-2.ensures.seat c.new-3.ensures.seat
