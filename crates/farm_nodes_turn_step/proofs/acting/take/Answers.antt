-- Why `take` meets its contract.
use Rattle.std.proofs.Common.{sym, subst}
use Rattle.rooms_crash.specs.SeatAct.{SeatAct}
use Rattle.rooms_crash.specs.Would.{Acted}
use Rattle.rooms_crash.proofs.Told.{acted_start, acted_promise, acted_propose, acted_accept}
use Rattle.farm_nodes_turn_step.proofs.acting.take.Goals as goal

pub returns-in-Start : goal.returns-in-Start
returns-in-Start c =
    let done = c.start-ballot.ensures in
    subst (λ (a : SeatAct). Acted a c.args.seat.now c.start-ballot.new.self) (sym c.in-Start.is)
    (acted_start c.args.seat.now c.start-ballot.new.self c.start-ballot.result c.bounds.ensures.sizes c.bounds.ensures.number done.ok done.spent done.err)

pub returns-in-Promise : goal.returns-in-Promise
returns-in-Promise c =
    let done = c.promise-ballot.ensures in
    subst (λ (a : SeatAct). Acted a c.args.seat.now c.promise-ballot.new.self) (sym c.in-Promise.is)
    (acted_promise c.in-Promise.j c.args.seat.now c.promise-ballot.new.self c.promise-ballot.result done.answer done.some done.none)

pub returns-in-Propose : goal.returns-in-Propose
returns-in-Propose c =
    let done = c.propose-proposal.ensures in
    subst (λ (a : SeatAct). Acted a c.args.seat.now c.propose-proposal.new.self) (sym c.in-Propose.is)
    (acted_propose c.args.seat.now c.propose-proposal.new.self c.propose-proposal.result done.answer done.some done.none)

pub returns-in-Accept : goal.returns-in-Accept
returns-in-Accept c =
    let done = c.accept-vote.ensures in
    subst (λ (a : SeatAct). Acted a c.args.seat.now c.accept-vote.new.self) (sym c.in-Accept.is)
    (acted_accept c.in-Accept.j c.args.seat.now c.accept-vote.new.self c.accept-vote.result done.answer done.some done.none)
