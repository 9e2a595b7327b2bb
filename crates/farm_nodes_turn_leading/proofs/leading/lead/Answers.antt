-- Why `lead` meets its clauses `quiet`, `leaves`, `started`, `drawn`, `once` and `journal`.
use Rattle.std.proofs.Common.{rules, ℕ, Bool, true, false, refl, sym, ap, ◌∙◌, subst}
use Rattle.rand_pcg.specs.Lcg.{Lcg}
use Rattle.farm_nodes_turn_step.proofs.Results.{Grown, grown_on, stops_after}
use Rattle.farm_nodes_turn_leading.proofs.Ballots.{drawn_if, quiet_led, leaves_proposing, leaves_same, leaves_starting, leaves_through, might_led, start_proposing}
use Rattle.farm_nodes_turn_leading.proofs.leading.lead.Goals as goal

pub returns-then-not-may_start-clause-quiet : goal.returns-then-not-may_start-clause-quiet
returns-then-not-may_start-clause-quiet g c j quiet =
    quiet_led j c.args.seat.now c.act.new.seat (leaves_proposing c.args.seat.now c.act.new.seat c.in-Ok.ensures.ok.1) quiet

pub returns-then-next_word-ne0-clause-quiet : goal.returns-then-next_word-ne0-clause-quiet
returns-then-next_word-ne0-clause-quiet g c j quiet =
    quiet_led j c.args.seat.now c.act.new.seat (leaves_proposing c.args.seat.now c.act.new.seat c.in-Ok.ensures.ok.1) quiet

pub returns-in-Ok-act-clause-quiet : goal.returns-in-Ok-act-clause-quiet
returns-in-Ok-act-clause-quiet g c j quiet =
    quiet_led j c.act.new.seat c.act-2.new.seat
    (leaves_starting c.act.new.seat c.act-2.new.seat (sym c.may_start.ensures ∙ c.if-not-may_start.false) c.in-Ok-act.ensures.ok.1)
    (quiet_led j c.args.seat.now c.act.new.seat (leaves_proposing c.args.seat.now c.act.new.seat c.in-Ok.ensures.ok.1) quiet)

pub returns-then-not-may_start-clause-leaves : goal.returns-then-not-may_start-clause-leaves
returns-then-not-may_start-clause-leaves g c = leaves_proposing c.args.seat.now c.act.new.seat c.in-Ok.ensures.ok.1

pub returns-then-next_word-ne0-clause-leaves : goal.returns-then-next_word-ne0-clause-leaves
returns-then-next_word-ne0-clause-leaves g c = leaves_proposing c.args.seat.now c.act.new.seat c.in-Ok.ensures.ok.1

pub returns-in-Err-act-clause-leaves : goal.returns-in-Err-act-clause-leaves
returns-in-Err-act-clause-leaves g c =
    leaves_through c.args.seat.now c.act.new.seat c.act-2.new.seat (leaves_proposing c.args.seat.now c.act.new.seat c.in-Ok.ensures.ok.1)
    (leaves_same c.act.new.seat c.act-2.new.seat c.in-Err-act.ensures.err)

pub returns-in-Ok-act-clause-leaves : goal.returns-in-Ok-act-clause-leaves
returns-in-Ok-act-clause-leaves g c =
    leaves_through c.args.seat.now c.act.new.seat c.act-2.new.seat (leaves_proposing c.args.seat.now c.act.new.seat c.in-Ok.ensures.ok.1)
    (leaves_starting c.act.new.seat c.act-2.new.seat (sym c.may_start.ensures ∙ c.if-not-may_start.false) c.in-Ok-act.ensures.ok.1)

pub returns-in-Ok-act-clause-started : goal.returns-in-Ok-act-clause-started
returns-in-Ok-act-clause-started g c changed = (
  might_led c.args.seat.now c.act-2.new.seat
      (leaves_through c.args.seat.now c.act.new.seat c.act-2.new.seat (leaves_proposing c.args.seat.now c.act.new.seat c.in-Ok.ensures.ok.1)
      (leaves_starting c.act.new.seat c.act-2.new.seat (sym c.may_start.ensures ∙ c.if-not-may_start.false) c.in-Ok-act.ensures.ok.1))
      ∙ (sym (start_proposing c.args.seat.now c.act.new.seat c.in-Ok.ensures.ok.1) ∙ (sym c.may_start.ensures ∙ c.if-not-may_start.false)),
  λ offered. search rules,
)

pub returns-then-not-may_start-clause-drawn : goal.returns-then-not-may_start-clause-drawn
returns-then-not-may_start-clause-drawn g c =
    drawn_if c.args.draws.now c.args.draws.now c.args.seat.now c.act.new.seat false (leaves_proposing c.args.seat.now c.act.new.seat c.in-Ok.ensures.ok.1)
    (sym (start_proposing c.args.seat.now c.act.new.seat c.in-Ok.ensures.ok.1) ∙ (sym c.may_start.ensures ∙ c.if-not-may_start.true)) refl

pub returns-then-next_word-ne0-clause-drawn : goal.returns-then-next_word-ne0-clause-drawn
returns-then-next_word-ne0-clause-drawn g c =
    drawn_if c.args.draws.now c.next_word.new.self c.args.seat.now c.act.new.seat true (leaves_proposing c.args.seat.now c.act.new.seat c.in-Ok.ensures.ok.1)
    (sym (start_proposing c.args.seat.now c.act.new.seat c.in-Ok.ensures.ok.1) ∙ (sym c.may_start.ensures ∙ c.if-not-may_start.false))
    (ap (λ (p : ℕ × Lcg). p.1) c.next_word.ensures)

pub returns-in-Ok-act-clause-drawn : goal.returns-in-Ok-act-clause-drawn
returns-in-Ok-act-clause-drawn g c =
    drawn_if c.args.draws.now c.next_word.new.self c.args.seat.now c.act-2.new.seat true
    (leaves_through c.args.seat.now c.act.new.seat c.act-2.new.seat (leaves_proposing c.args.seat.now c.act.new.seat c.in-Ok.ensures.ok.1)
    (leaves_starting c.act.new.seat c.act-2.new.seat (sym c.may_start.ensures ∙ c.if-not-may_start.false) c.in-Ok-act.ensures.ok.1))
    (sym (start_proposing c.args.seat.now c.act.new.seat c.in-Ok.ensures.ok.1) ∙ (sym c.may_start.ensures ∙ c.if-not-may_start.false))
    (ap (λ (p : ℕ × Lcg). p.1) c.next_word.ensures)

pub returns-in-Ok-act-clause-journal : goal.returns-in-Ok-act-clause-journal
returns-in-Ok-act-clause-journal g c honest going =
    let disk = g.D.Disk in
    subst (λ (t : Bool). Grown disk c.args.log.now c.act-2.new.log c.args.room c.args.seat.now c.act-2.new.seat t) (sym c.either.ensures)
    (grown_on disk c.args.log.now c.act.new.log c.act-2.new.log c.args.room c.args.seat.now c.act.new.seat c.act-2.new.seat c.in-Ok.proposed c.in-Ok-act.started
    c.act.ensures.served.header (c.in-Ok.ensures.journal honest going)
    (c.in-Ok-act.ensures.journal (c.act.ensures.served.honest.1 honest) (c.in-Ok.ensures.going ∙ going)))

pub returns-in-Err-act-clause-journal : goal.returns-in-Err-act-clause-journal
returns-in-Err-act-clause-journal g c honest going =
    let disk = g.D.Disk in
    stops_after disk c.args.log.now c.act.new.log c.act-2.new.log c.args.room c.args.seat.now c.act.new.seat c.act-2.new.seat c.in-Ok.proposed c.in-Err-act.stop
    c.act.ensures.served.header (c.in-Ok.ensures.journal honest going)
    (c.in-Err-act.ensures.journal (c.act.ensures.served.honest.1 honest) (c.in-Ok.ensures.going ∙ going))
