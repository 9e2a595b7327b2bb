-- Why `hear_all` meets its clause `journal`, and its loop over `j` keeps the invariant.
use Rattle.std.proofs.Common.{◌≡◌, ℕ, ◌+◌, ◌<◌, ◌≤◌, inl, inr, Bool, true, false, ◌||◌, refl, sym, ap, ◌∙◌, subst, arith}
use Rattle.std.proofs.lemmas.Bool.{cases_lt}
use Rattle.farm_nodes_turn_step.specs.Quiet.{IsQuiet}
use Rattle.farm_nodes_turn_step.proofs.Answering.{heard_same, heard_through}
use Rattle.farm_nodes_turn_step.proofs.Results.{Grown, grown_on, idle, stops_after}
use Rattle.farm_nodes_turn_step.proofs.hearing.hear_all.Goals as goal
use Rattle.farm_nodes_turn_step.proofs.hearing.hear_all.Goals.{then-moved, else-moved}

pub returns-in-Err-clause-journal : goal.returns-in-Err-clause-journal
returns-in-Err-clause-journal g c honest going =
    let disk = g.D.Disk in
    let inv = c.loop-j.invariant in
    stops_after disk c.args.log.now c.loop-j.log c.hear.new.log c.args.room c.args.seat.now c.loop-j.seat c.hear.new.seat c.loop-j.moved c.in-Err.stop
    inv.served.header (inv.journal honest going)
    (c.in-Err.ensures.journal (inv.served.honest.1 honest) (inv.going ∙ going))

pub loop-j-init : goal.loop-j-init
loop-j-init g c =
    let disk = g.D.Disk in
    let log = c.args.log.now in
    record {
      served = record { sound = c.requires; honest = (λ h. h, λ h. h); header = refl; later = omega arith };
      going = refl;
      heard = heard_same c.args.seat.now;
      nodes = c.count-j-end.ensures.value;
      quiet = λ i lt. absurd (omega (arith, lt));
      journal = λ honest going.
          idle disk log c.args.room c.args.seat.now (c.requires honest going)
          (λ b left. g.met.D.Disk.only_now log.disk b honest left);
    }

pub loop-j-preserved : goal.loop-j-preserved
loop-j-preserved g c =
    let disk = g.D.Disk in
    let inv = c.loop-j.invariant in
    let served = c.hear.ensures.served in
    let either : c.if-moved.moved ≡ (c.loop-j.moved || c.in-Ok.again) =
    elim c.if-moved.branch [
      | then-moved w ↦ w.moved-is ∙ (w.if-moved.true ∙ sym (ap (λ (t : Bool). t || c.in-Ok.again) w.if-moved.true))
      | else-moved w ↦ w.moved-is ∙ sym (ap (λ (t : Bool). t || c.in-Ok.again) w.if-moved.false)
    ] in
    record {
      served = record {
        sound = served.sound;
        honest = (λ h. inv.served.honest.0 (served.honest.0 h), λ h. served.honest.1 (inv.served.honest.1 h));
        header = served.header ∙ inv.served.header;
        later = omega (arith, served.later, inv.served.later);
      };
      going = c.in-Ok.ensures.going ∙ inv.going;
      heard = heard_through c.args.seat.now c.loop-j.seat c.hear.new.seat inv.heard c.hear.ensures.heard;
      nodes = inv.nodes;
      quiet = λ i lt.
          elim (cases_lt i c.loop-j.j) [
            | inl less ↦ c.in-Ok.ensures.others i less (inv.quiet i less)
            | inr more ↦
                let same : c.loop-j.j ≡ i = omega arith in
                subst (λ (k : ℕ). IsQuiet k c.hear.new.seat) same c.in-Ok.ensures.quiet
          ];
      journal = λ honest going.
          subst (λ (t : Bool). Grown disk c.args.log.now c.hear.new.log c.args.room c.args.seat.now c.hear.new.seat t) (sym either)
          (grown_on disk c.args.log.now c.loop-j.log c.hear.new.log c.args.room c.args.seat.now c.loop-j.seat c.hear.new.seat c.loop-j.moved c.in-Ok.again
          inv.served.header (inv.journal honest going)
          (c.in-Ok.ensures.journal (inv.served.honest.1 honest) (inv.going ∙ going)));
    }
