-- Why `take` meets its contract.
use Rattle.std.proofs.Common.{sym, subst}
use Rattle.rooms_crash.specs.SeatAct.{SeatAct}
use Rattle.rooms_crash.specs.Would.{Acted}
use Rattle.rooms_crash.proofs.Told.{acted_start, acted_promise, acted_propose, acted_accept}
use Rattle.farm_nodes_sweep_step.proofs.Stepping.{all_steps}
use Rattle.farm_nodes_sweep_step.proofs.staging.take.Goals as goal

pub returns-in-Start-clause-acted : goal.returns-in-Start-clause-acted
returns-in-Start-clause-acted c =
    let done = c.start-ballot.ensures in
    subst (λ (a : SeatAct). Acted a c.args.seat.now c.start-ballot.new.self) (sym c.in-Start.is)
    (acted_start c.args.seat.now c.start-ballot.new.self c.start-ballot.result c.bounds.ensures.sizes c.bounds.ensures.number done.ok done.spent done.err)

pub returns-in-Promise-clause-acted : goal.returns-in-Promise-clause-acted
returns-in-Promise-clause-acted c =
    let done = c.promise-ballot.ensures in
    subst (λ (a : SeatAct). Acted a c.args.seat.now c.promise-ballot.new.self) (sym c.in-Promise.is)
    (acted_promise c.in-Promise.j c.args.seat.now c.promise-ballot.new.self c.promise-ballot.result done.answer done.some done.none)

pub returns-in-Propose-clause-acted : goal.returns-in-Propose-clause-acted
returns-in-Propose-clause-acted c =
    let done = c.propose-proposal.ensures in
    subst (λ (a : SeatAct). Acted a c.args.seat.now c.propose-proposal.new.self) (sym c.in-Propose.is)
    (acted_propose c.args.seat.now c.propose-proposal.new.self c.propose-proposal.result done.answer done.some done.none)

pub returns-in-Accept-clause-acted : goal.returns-in-Accept-clause-acted
returns-in-Accept-clause-acted c =
    let done = c.accept-vote.ensures in
    subst (λ (a : SeatAct). Acted a c.args.seat.now c.accept-vote.new.self) (sym c.in-Accept.is)
    (acted_accept c.in-Accept.j c.args.seat.now c.accept-vote.new.self c.accept-vote.result done.answer done.some done.none)

pub returns-in-Start-clause-steps : goal.returns-in-Start-clause-steps
returns-in-Start-clause-steps c = all_steps c.args.seat.now c.start-ballot.new.self c.args.act c.bounds.ensures c.requires (returns-in-Start-clause-acted c)

pub returns-in-Promise-clause-steps : goal.returns-in-Promise-clause-steps
returns-in-Promise-clause-steps c = all_steps c.args.seat.now c.promise-ballot.new.self c.args.act c.bounds.ensures c.requires (returns-in-Promise-clause-acted c)

pub returns-in-Propose-clause-steps : goal.returns-in-Propose-clause-steps
returns-in-Propose-clause-steps c = all_steps c.args.seat.now c.propose-proposal.new.self c.args.act c.bounds.ensures c.requires (returns-in-Propose-clause-acted c)

pub returns-in-Accept-clause-steps : goal.returns-in-Accept-clause-steps
returns-in-Accept-clause-steps c = all_steps c.args.seat.now c.accept-vote.new.self c.args.act c.bounds.ensures c.requires (returns-in-Accept-clause-acted c)
