-- Why `hear` meets its clauses `heard`, `quiet`, `others` and `journal`.
use Rattle.std.proofs.Common.{◌≡◌, ◌≢◌, ℕ, sym, ap, arith}
use Rattle.rooms_crash.specs.SeatState.{SeatState}
use Rattle.farm_nodes_turn_step.proofs.Answering.{heard_through, heard_proposer, heard_acceptor, quiet_proposer, quiet_acceptor}
use Rattle.farm_nodes_turn_order.proofs.Looked.{looked_proposer, looked_acceptor}
use Rattle.farm_nodes_turn_order.proofs.Orders.{same_turned}
use Rattle.farm_nodes_turn_step.proofs.Results.{grown_at, stopped_at}
use Rattle.farm_nodes_turn_step.proofs.hearing.hear.Goals as goal

pub returns-clause-heard : goal.returns-clause-heard
returns-clause-heard g c =
    let s = c.args.seat.now in
    let s1 = c.look_proposer-proposer.new.self in
    let s2 = c.answer.new.seat in
    let t = c.look_acceptor-acceptor.new.self in
    heard_through s s1 t (heard_proposer c.args.j c.look_proposer-proposer.result s s1 c.look_proposer-proposer.ensures)
    (heard_through s1 s2 t c.answer.ensures.heard (heard_acceptor c.args.j c.look_acceptor-acceptor.result s2 t c.look_acceptor-acceptor.ensures))

pub returns-in-Err-clause-heard : goal.returns-in-Err-clause-heard
returns-in-Err-clause-heard g c =
    let s = c.args.seat.now in
    let s1 = c.look_proposer-proposer.new.self in
    heard_through s s1 c.answer.new.seat (heard_proposer c.args.j c.look_proposer-proposer.result s s1 c.look_proposer-proposer.ensures) c.answer.ensures.heard

pub returns-clause-quiet : goal.returns-clause-quiet
returns-clause-quiet g c =
    quiet_acceptor c.args.j c.args.j c.look_acceptor-acceptor.result c.answer.new.seat c.look_acceptor-acceptor.new.self c.look_acceptor-acceptor.ensures c.in-Ok.ensures.quiet

pub returns-clause-others : goal.returns-clause-others
returns-clause-others g c i lt quiet =
    let other : i ≢ c.args.j = (λ (e : i ≡ c.args.j). omega arith) in
    quiet_acceptor i c.args.j c.look_acceptor-acceptor.result c.answer.new.seat c.look_acceptor-acceptor.new.self c.look_acceptor-acceptor.ensures
    (c.in-Ok.ensures.others i lt (quiet_proposer i c.args.j c.look_proposer-proposer.result c.args.seat.now c.look_proposer-proposer.new.self other c.look_proposer-proposer.ensures quiet))

pub returns-clause-journal : goal.returns-clause-journal
returns-clause-journal g c honest going =
    let disk = g.D.Disk in
    let s = c.args.seat.now in
    let s1 = c.look_proposer-proposer.new.self in
    let s2 = c.answer.new.seat in
    let t = c.look_acceptor-acceptor.new.self in
    grown_at disk c.args.log.now c.answer.new.log c.args.room s1 s2 s t c.in-Ok.moved
    (same_turned s s1 (looked_proposer c.args.j c.look_proposer-proposer.result s s1 c.look_proposer-proposer.ensures))
    (looked_acceptor c.args.j c.look_acceptor-acceptor.result s2 t c.look_acceptor-acceptor.ensures)
    (c.in-Ok.ensures.journal honest going)

pub returns-in-Err-clause-journal : goal.returns-in-Err-clause-journal
returns-in-Err-clause-journal g c honest going =
    let disk = g.D.Disk in
    let s = c.args.seat.now in
    let s1 = c.look_proposer-proposer.new.self in
    stopped_at disk c.args.log.now c.answer.new.log c.args.room s1 s c.answer.new.seat c.in-Err.stop
    (same_turned s s1 (looked_proposer c.args.j c.look_proposer-proposer.result s s1 c.look_proposer-proposer.ensures))
    (c.in-Err.ensures.journal honest going)
