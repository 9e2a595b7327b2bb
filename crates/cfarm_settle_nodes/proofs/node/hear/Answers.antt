-- Why `hear` meets its contract.
use Rattle.cfarm_settle_nodes.proofs.Going.{stays_looked_at_acceptor, stays_looked_at_proposer, stays_through}
use Rattle.cfarm_settle_nodes.proofs.node.hear.Goals as goal

pub returns : goal.returns
returns g c =
    let old = c.args.seat.now in
    let looked = c.look_proposer-proposer.new.self in
    let answered = c.answer.new.seat in
    let new = c.look_acceptor-acceptor.new.self in
    stays_through old answered new
    (stays_through old looked answered (stays_looked_at_proposer c.args.j c.look_proposer-proposer.result old looked c.look_proposer-proposer.ensures.looked c.look_proposer-proposer.ensures.sights) c.answer.ensures)
    (stays_looked_at_acceptor c.args.j c.look_acceptor-acceptor.result answered new c.look_acceptor-acceptor.ensures.looked c.look_acceptor-acceptor.ensures.notes c.look_acceptor-acceptor.ensures.sights)
