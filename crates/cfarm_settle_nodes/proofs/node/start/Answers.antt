-- Why `start` meets its contract.
use Rattle.rooms_seat_state.specs.declared.act.SeatAct.TheVariants as act
use Rattle.cfarm_settle_nodes.proofs.Going.{stays_acted}
use Rattle.cfarm_settle_nodes.proofs.node.start.Goals as goal

pub returns : goal.returns
returns g c = stays_acted act.Start c.args.seat.now c.start-started.new.self c.start-started.ensures.acted c.start-started.ensures.sights
