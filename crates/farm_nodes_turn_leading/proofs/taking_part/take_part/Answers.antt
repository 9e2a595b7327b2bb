-- Why `take_part` meets its clauses `remains`, `started`, `drawn` and `journal`.
use Rattle.std.proofs.Common.{Bool, sym, ◌∙◌, subst}
use Rattle.rand_pcg.specs.Pcg.{pcg32}
use Rattle.farm_nodes_turn_step.proofs.Results.{Grown, grown_on, stops_after}
use Rattle.farm_nodes_turn_leading.proofs.Ballots.{drawn_hearing, lot_heard, lot_hearing, stays_hearing, stays_leading}
use Rattle.farm_nodes_turn_leading.proofs.taking_part.take_part.Goals as goal

pub returns-in-Ok-lead-clause-remains : goal.returns-in-Ok-lead-clause-remains
returns-in-Ok-lead-clause-remains g c =
    stays_leading c.args.seat.now c.hear_all.new.seat c.lead.new.seat c.hear_all.ensures.heard c.lead.ensures.leaves

pub returns-in-Err-lead-clause-remains : goal.returns-in-Err-lead-clause-remains
returns-in-Err-lead-clause-remains g c =
    stays_leading c.args.seat.now c.hear_all.new.seat c.lead.new.seat c.hear_all.ensures.heard c.lead.ensures.leaves

pub returns-in-Err-clause-remains : goal.returns-in-Err-clause-remains
returns-in-Err-clause-remains g c = stays_hearing c.args.seat.now c.hear_all.new.seat c.hear_all.ensures.heard

pub returns-in-Ok-lead-clause-started : goal.returns-in-Ok-lead-clause-started
returns-in-Ok-lead-clause-started g c =
    lot_hearing (pcg32 c.args.draws.now).0 c.args.seat.now c.hear_all.new.seat c.lead.new.seat c.hear_all.ensures.heard c.lead.ensures.started

pub returns-in-Err-lead-clause-started : goal.returns-in-Err-lead-clause-started
returns-in-Err-lead-clause-started g c =
    lot_hearing (pcg32 c.args.draws.now).0 c.args.seat.now c.hear_all.new.seat c.lead.new.seat c.hear_all.ensures.heard c.lead.ensures.started

pub returns-in-Err-clause-started : goal.returns-in-Err-clause-started
returns-in-Err-clause-started g c = lot_heard (pcg32 c.args.draws.now).0 c.args.seat.now c.hear_all.new.seat c.hear_all.ensures.heard

pub returns-in-Ok-lead-clause-drawn : goal.returns-in-Ok-lead-clause-drawn
returns-in-Ok-lead-clause-drawn g c =
    drawn_hearing c.args.draws.now c.lead.new.draws c.args.seat.now c.hear_all.new.seat c.lead.new.seat c.hear_all.ensures.heard c.in-Ok-lead.ensures.drawn

pub returns-in-Ok-lead-clause-journal : goal.returns-in-Ok-lead-clause-journal
returns-in-Ok-lead-clause-journal g c honest going =
    let disk = g.D.Disk in
    subst (λ (t : Bool). Grown disk c.args.log.now c.lead.new.log c.args.room c.args.seat.now c.lead.new.seat t) (sym c.either.ensures)
    (grown_on disk c.args.log.now c.hear_all.new.log c.lead.new.log c.args.room c.args.seat.now c.hear_all.new.seat c.lead.new.seat c.in-Ok.heard c.in-Ok-lead.led
    c.hear_all.ensures.served.header (c.in-Ok.ensures.journal honest going)
    (c.in-Ok-lead.ensures.journal (c.hear_all.ensures.served.honest.1 honest) (c.in-Ok.ensures.going ∙ going)))

pub returns-in-Err-lead-clause-journal : goal.returns-in-Err-lead-clause-journal
returns-in-Err-lead-clause-journal g c honest going =
    let disk = g.D.Disk in
    stops_after disk c.args.log.now c.hear_all.new.log c.lead.new.log c.args.room c.args.seat.now c.hear_all.new.seat c.lead.new.seat c.in-Ok.heard c.in-Err-lead.stop
    c.hear_all.ensures.served.header (c.in-Ok.ensures.journal honest going)
    (c.in-Err-lead.ensures.journal (c.hear_all.ensures.served.honest.1 honest) (c.in-Ok.ensures.going ∙ going))
