-- Why `turn` meets its clause `seat`.
use Rattle.cfarm_settle_nodes.proofs.Going.{goes_through}
use Rattle.cfarm_settle_nodes.proofs.node.turn.Goals as goal

pub returns-in-Ok-clause-seat : goal.returns-in-Ok-clause-seat
returns-in-Ok-clause-seat g c = goes_through c.args.input.now c.args.seat.now c.offer.new.seat c.act.new.seat c.offer.ensures.seat (c.act.ensures c.args.input.now)
