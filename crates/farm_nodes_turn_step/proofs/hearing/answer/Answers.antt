-- Why `answer` meets its clauses `heard`, `others` and `journal`.
use Rattle.std.proofs.Common.{◌≡◌, ◌≢◌, ◌<◌, ℕ, inl, inr, sym, ◌∙◌, subst, arith}
use Rattle.rooms_crash.specs.SeatState.{SeatState}
use Rattle.farm_nodes_turn_step.specs.Quiet.{IsQuiet}
use Rattle.farm_nodes_turn_step.proofs.Answering.{heard_promising, heard_through, heard_voted, voted_or, quiet_voted}
use Rattle.farm_nodes_turn_step.proofs.Results.{goes_on}
use Rattle.farm_nodes_turn_step.proofs.hearing.answer.Goals as goal

pub returns-then-moved-clause-heard : goal.returns-then-moved-clause-heard
returns-then-moved-clause-heard g c = heard_voted c.args.j c.args.seat.now c.act.new.seat c.in-Ok.ensures.ok.1

pub returns-clause-heard : goal.returns-clause-heard
returns-clause-heard g c =
    heard_through c.args.seat.now c.act.new.seat c.act-2.new.seat (heard_voted c.args.j c.args.seat.now c.act.new.seat c.in-Ok.ensures.ok.1)
    (heard_promising c.args.j c.act.new.seat c.act-2.new.seat c.act-2.result c.act-2.ensures.ok c.act-2.ensures.err)

pub returns-then-moved-clause-others : goal.returns-then-moved-clause-others
returns-then-moved-clause-others g c i lt quiet =
    let s = c.args.seat.now in
    let t = c.act.new.seat in
    let acted = c.in-Ok.ensures.ok.1 in
    let low : c.args.j < c.args.seat.now.node.quorums.nodes = c.requires.below in
    let other : i ≢ c.args.j = (λ (e : i ≡ c.args.j). omega arith) in
    elim (voted_or c.args.j s t acted) [
      | inl none ↦ subst (λ (u : SeatState). IsQuiet i u) (sym (acted.idle none)) quiet
      | inr done ↦ quiet_voted i c.args.j s t c.bounds.ensures other (omega arith) low acted done quiet
    ]

pub returns-clause-journal : goal.returns-clause-journal
returns-clause-journal g c honest going =
    let disk = g.D.Disk in
    goes_on disk c.args.log.now c.act.new.log c.act-2.new.log c.args.room c.args.seat.now c.act.new.seat c.act-2.new.seat c.in-Ok.moved c.act-2.result
    c.act.ensures.served.header (c.in-Ok.ensures.journal honest going) c.if-moved.false
    (c.act-2.ensures.journal (c.act.ensures.served.honest.1 honest) (c.in-Ok.ensures.going ∙ going))
