-- Why `act` meets its contract.
use Rattle.cfarm_settle_nodes.proofs.Going.{goes_through, read_on, stays_on}
use Rattle.cfarm_settle_nodes.proofs.node.act.Goals as goal

pub returns : goal.returns
returns g c f =
    let old = c.args.seat.now in
    let heard = c.hear_all-is_new.new.seat in
    let led = c.lead.new.seat in
    let new = c.fetch.new.seat in
    goes_through f old led new (goes_through f old heard led (stays_on f old heard c.hear_all-is_new.ensures) (stays_on f heard led c.lead.ensures))
    (read_on f led new c.fetch.ensures.words c.fetch.ensures.own c.fetch.ensures.cells)
