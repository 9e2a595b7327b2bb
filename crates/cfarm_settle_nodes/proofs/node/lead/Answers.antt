-- Why `lead` meets its contract.
use Rattle.rooms_seat_state.specs.declared.act.SeatAct.TheVariants as act
use Rattle.cfarm_settle_nodes.proofs.Going.{stays_acted, stays_through}
use Rattle.cfarm_settle_nodes.proofs.node.lead.Goals as goal

pub returns : goal.returns
returns g c =
    stays_through c.args.seat.now c.propose-proposed.new.self c.start.new.seat
    (stays_acted act.Propose c.args.seat.now c.propose-proposed.new.self c.propose-proposed.ensures.acted c.propose-proposed.ensures.sights) c.start.ensures
