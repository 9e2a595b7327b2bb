-- Why `obey` meets its clause `some`.
use Rattle.std.proofs.Common.{reverse, ap, arith}
use Rattle.paxos_core.specs.Call.{Offer, Start, Proposal, Restart}
use Rattle.cfarm_sim.specs.Plays.{asked}
use Rattle.cfarm_sim.proofs.Moves.{done}
use Rattle.cfarm_sim.proofs.playing.obey.Goals as goal

pub returns-in-Offer-clause-some : goal.returns-in-Offer-clause-some
returns-in-Offer-clause-some c =
    let room = c.args.room.now in
    let count = c.count-count.ensures.count in
    done room c.offer.new.self c.args.command c.in-Offer.node Offer c.offer.result (let h = c.if-node-count.true in omega (arith, count)) c.count-count.ensures.nodes
    (ap (asked (reverse room.sent)) c.in-Offer.is) c.offer.ensures.state c.offer.ensures.told

pub returns-in_ok-start-in-Start-clause-some : goal.returns-in_ok-start-in-Start-clause-some
returns-in_ok-start-in-Start-clause-some c =
    let room = c.args.room.now in
    let count = c.count-count.ensures.count in
    done room c.start.new.self c.args.command c.in-Start.node Start c.in_ok-start-in-Start.field-0 (let h = c.if-node-count-2.true in omega (arith, count)) c.count-count.ensures.nodes
    (ap (asked (reverse room.sent)) c.in-Start.is) c.in_ok-start-in-Start.ensures.state c.in_ok-start-in-Start.ensures.told

pub returns-in_ok-propose-in-Propose-clause-some : goal.returns-in_ok-propose-in-Propose-clause-some
returns-in_ok-propose-in-Propose-clause-some c =
    let room = c.args.room.now in
    let count = c.count-count.ensures.count in
    done room c.propose.new.self c.args.command c.in-Propose.node Proposal c.in_ok-propose-in-Propose.field-0 (let h = c.if-node-count-3.true in omega (arith, count)) c.count-count.ensures.nodes
    (ap (asked (reverse room.sent)) c.in-Propose.is) c.in_ok-propose-in-Propose.ensures.state c.in_ok-propose-in-Propose.ensures.told

pub returns-in-Restart-clause-some : goal.returns-in-Restart-clause-some
returns-in-Restart-clause-some c =
    let room = c.args.room.now in
    let count = c.count-count.ensures.count in
    done room c.restart.new.self c.args.command c.in-Restart.node Restart c.restart.result (let h = c.if-node-count-4.true in omega (arith, count)) c.count-count.ensures.nodes
    (ap (asked (reverse room.sent)) c.in-Restart.is) c.restart.ensures.state c.restart.ensures.told
