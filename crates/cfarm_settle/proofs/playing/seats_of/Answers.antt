-- Why `seats_of` meets its contract.
use Rattle.cfarm_settle_nodes.proofs.Nodes.{seats_so}
use Rattle.cfarm_settle.proofs.playing.seats_of.Goals as goal

pub returns-in-Some-seat_of-3 : goal.returns-in-Some-seat_of-3
returns-in-Some-seat_of-3 c f h =
    let all = c.in-Some in
    seats_so (λ s. s.node.seat) (λ s. s.node.input.now) f c.args.all.items all.first all.second all.third c.in-Some-seat_of.one c.in-Some-seat_of-2.two c.in-Some-seat_of-3.three h
    (all.ensures h.first h.second h.third h.are) c.in-Some-seat_of.ensures c.in-Some-seat_of-2.ensures c.in-Some-seat_of-3.ensures
