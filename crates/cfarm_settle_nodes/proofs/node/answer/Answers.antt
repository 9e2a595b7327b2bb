-- Why `answer` meets its contract.
use Rattle.rooms_seat_state.specs.declared.act.SeatAct.TheVariants as act
use Rattle.cfarm_settle_nodes.proofs.Going.{stays_acted, stays_through}
use Rattle.cfarm_settle_nodes.proofs.node.answer.Goals as goal

pub returns-in-Some : goal.returns-in-Some
returns-in-Some g c = stays_acted (act.Accept c.args.j) c.args.seat.now c.accept.new.self c.accept.ensures.acted c.accept.ensures.sights

pub returns-in-None : goal.returns-in-None
returns-in-None g c =
    stays_through c.args.seat.now c.accept.new.self c.promise-promised.new.self
    (stays_acted (act.Accept c.args.j) c.args.seat.now c.accept.new.self c.accept.ensures.acted c.accept.ensures.sights)
    (stays_acted (act.Promise c.args.j) c.accept.new.self c.promise-promised.new.self c.promise-promised.ensures.acted c.promise-promised.ensures.sights)
