-- Why `restart` meets its clauses `asked`, `kept`, `back`, `refused` and 2 more, and it may call `come_back_on`.
use Rattle.std.proofs.Common.{◌≡◌, ◌*◌, ℕ, List, length, Option, refl, sym, ap, ◌∙◌, subst}
use Rattle.std.proofs.lemmas.List.{length-map}
use Rattle.acceptor_log_form.specs.declared.header.Header.{Header}
use Rattle.acceptor_log_form.specs.declared.record.Record.{Record}
use Rattle.acceptor_log_form.specs.Order.{AreInOrder}
use Rattle.acceptor_log_form.specs.Text.{StandsFor}
use Rattle.farm_nodes_turn_step.specs.declared.stop.Pending.{Pending}
use Rattle.farm_nodes_restart_node.specs.Fours.{four_of, fours_of}
use Rattle.acceptor_log.specs.Acknowledged.{acknowledged}
use Rattle.farm_nodes_turn_node.specs.Held.{AreSeatsOf}
use Rattle.durable_pair.specs.Images.{Images}
use Rattle.farm_nodes_restart_node.specs.Texts.{pass_texts}
use Rattle.farm_nodes_restart_node.specs.Seats.{HaveComeBack}
use Rattle.farm_nodes_restart_disks.specs.Cause.{HasCauseOn}
use Rattle.farm_nodes_restart_disks.specs.Stopped.{left_by, room_in}
use Rattle.farm_nodes_restart_disks.proofs.Own.{cause_of, own_fault}
use Rattle.farm_nodes_restart_disks.proofs.Soundness.{sound_back, sound_refused}
use Rattle.farm_nodes_restart_disks.proofs.Telling.{stopped_as}
use Rattle.farm_nodes_restart_disks.proofs.Waiting.{at_both, still_pending}
use Rattle.farm_nodes_restart_disks.proofs.restarting.restart.Goals as goal

pub come_back_on-requires-clause-pending : goal.come_back_on-requires-clause-pending
come_back_on-requires-clause-pending g c =
    still_pending c.args.node.seats.items c.args.node.seats.items c.args.node.halted c.unfinished-room.result.0 c.unfinished-room.result.1
    c.unfinished-room.ensures.room c.unfinished-room.ensures.pending refl c.requires.asked.1

pub returns-in-Ok-clause-asked : goal.returns-in-Ok-clause-asked
returns-in-Ok-clause-asked g c =
    let disk = g.P.Disk in
    let old = fours_of c.args.node.seats.items in
    let fresh = c.in-Ok.fresh in
    let same : c.in-Ok.fresh.header ≡ c.args.node.log.header = c.in-Ok.ensures.ok.1 ∙ c.header.ensures in (
      sound_back pass_texts disk fresh old (fours_of c.come_back_on.new.seats.items) (4 * length c.args.node.seats.items)
          c.in-Ok.ensures.sound c.in-Ok.ensures.ok.0
          (ap (λ (n : ℕ). 4 * n) (sym (length-map c.come_back_on.new.seats.items four_of ∙ c.come_back_on.ensures.count)))
          (subst (λ (h : Header). AreSeatsOf h (fours_of c.args.node.seats.items)) (sym same) c.requires.asked.0.own) c.requires.asked.0.of_runs c.in-Ok.ensures.rest
          (λ honest. (c.in-Ok.ensures.seats (c.in-Ok.ensures.honest.0 honest)).leave)
          (λ honest. subst (λ (h : Header). AreInOrder h.nodes h.node (4 * length c.args.node.seats.items) (acknowledged g.P.Disk.seen c.in-Ok.fresh)) (sym c.in-Ok.ensures.ok.1)
          (c.in-Ok.ensures.in_order (c.in-Ok.ensures.honest.0 honest)))
          (λ bytes honest left. c.at_rest.ensures c.in-Ok.fresh bytes c.in-Ok.ensures.sound honest c.in-Ok.ensures.ok.0 left),
      tt,
    )

pub returns-in-Err-clause-asked : goal.returns-in-Err-clause-asked
returns-in-Err-clause-asked g c =
    let disk = g.P.Disk in (
      sound_refused pass_texts disk c.args.node.log
          (fours_of c.args.node.seats.items) (fours_of c.come_back_on.new.seats.items) c.args.node.halted
          (record { room = c.unfinished-room.result.0; halt = record { fault = c.told.result; pending = c.unfinished-room.result.1 } })
          c.unfinished-room.ensures.room c.unfinished-room.ensures.pending c.in-Err.ensures.err c.requires.asked.0,
      still_pending c.args.node.seats.items c.come_back_on.new.seats.items c.args.node.halted c.unfinished-room.result.0 c.unfinished-room.result.1
          c.unfinished-room.ensures.room c.unfinished-room.ensures.pending c.in-Err.ensures.err c.requires.asked.1,
    )

pub returns-in-Ok-clause-kept : goal.returns-in-Ok-clause-kept
returns-in-Ok-clause-kept g c = record { program = refl; oracles = refl; draws = refl }

pub returns-in-Err-clause-kept : goal.returns-in-Err-clause-kept
returns-in-Err-clause-kept g c = record { program = refl; oracles = refl; draws = refl }

pub returns-in-Ok-clause-back : goal.returns-in-Ok-clause-back
returns-in-Ok-clause-back g c =
    let seen = g.P.Disk.seen in
    let rs : List Record = acknowledged seen c.in-Ok.fresh in
    record {
      goes_on = refl;
      going = c.in-Ok.ensures.ok.0;
      header = c.in-Ok.ensures.ok.1 ∙ c.header.ensures;
      own_pair = c.into_disk.ensures;
      honest = c.in-Ok.ensures.honest;
      over = λ whole. record {
        spent = c.in-Ok.ensures.spent whole;
        listed = subst (λ (h : Header). StandsFor h rs (seen c.args.pair)) c.header.ensures (c.in-Ok.ensures.listed whole);
        in_order =
            subst (λ (h : Header). AreInOrder h.nodes h.node (4 * length c.args.node.seats.items) rs) c.header.ensures
            (c.in-Ok.ensures.in_order whole);
        returned =
            at_both (λ (m : ℕ) (p : Option Pending). HaveComeBack m p rs c.args.node.seats.items c.come_back_on.new.seats.items)
            c.unfinished-room.result.0 (room_in c.args.node.halted) c.unfinished-room.result.1 (left_by c.args.node.halted)
            c.unfinished-room.ensures.room c.unfinished-room.ensures.pending (c.in-Ok.ensures.seats whole);
        shown = c.in-Ok.ensures.unchanged whole;
      };
    }

pub returns-in-Err-clause-refused : goal.returns-in-Err-clause-refused
returns-in-Err-clause-refused g c =
    let disk = g.P.Disk in
    let law = g.met.P.Pair in
    let im : Images = (disk.seen c.args.pair, g.P.Pair.old_seen c.args.pair) in
    let at = c.args.node.log.disk in
    let seats = fours_of c.args.node.seats.items in
    record {
      log = refl;
      seats = c.in-Err.ensures.err;
      stopped =
          stopped_as c.in-Err.fault c.args.node.halted c.unfinished-room.result.0 c.told.result c.unfinished-room.result.1
          c.unfinished-room.ensures.room c.told.ensures c.unfinished-room.ensures.pending;
      over = λ whole.
          let cause : HasCauseOn pass_texts c.args.node.log.header (4 * length c.args.node.seats.items) seats (room_in c.args.node.halted) (left_by c.args.node.halted) im c.in-Err.fault =
          at_both (λ (m : ℕ) (p : Option Pending). HasCauseOn pass_texts c.args.node.log.header (4 * length c.args.node.seats.items) seats m p im c.in-Err.fault)
          c.unfinished-room.result.0 (room_in c.args.node.halted) c.unfinished-room.result.1 (left_by c.args.node.halted)
          c.unfinished-room.ensures.room c.unfinished-room.ensures.pending
          (subst (λ (h : Header). HasCauseOn pass_texts h (4 * length c.args.node.seats.items) seats c.unfinished-room.result.0
          c.unfinished-room.result.1 im c.in-Err.fault) c.header.ensures (c.in-Err.ensures.refused whole)) in
          record {
            whole = c.in-Err.ensures.whole whole;
            untouched = c.in-Err.ensures.untouched whole;
            cause = cause;
            own = λ left.
                own_fault pass_texts disk c.args.node.log seats c.args.node.halted
                im.0 c.requires.asked.0 left.honest (law.new_is_left at im.0 left.honest left.shows.left.0) c.in-Err.fault
                (cause_of pass_texts c.args.node.log.header (4 * length seats) seats (room_in c.args.node.halted) (left_by c.args.node.halted) im c.in-Err.fault
                (left.shows.spent (law.honest_spent at left.shows.old left.honest left.shows.left.1))
                (subst (λ (n : ℕ). HasCauseOn pass_texts c.args.node.log.header (4 * n) seats (room_in c.args.node.halted) (left_by c.args.node.halted) im c.in-Err.fault)
                (sym (length-map c.args.node.seats.items four_of)) cause));
          };
    }

pub returns-in-Ok-clause-any_moment : goal.returns-in-Ok-clause-any_moment
returns-in-Ok-clause-any_moment g c whole = c.in-Ok.ensures.any_moment whole

pub returns-in-Err-clause-any_moment : goal.returns-in-Err-clause-any_moment
returns-in-Err-clause-any_moment g c whole = c.in-Err.ensures.any_moment whole

pub returns-in-Ok-clause-failures : goal.returns-in-Ok-clause-failures
returns-in-Ok-clause-failures g c = c.in-Ok.ensures.failures

pub returns-in-Err-clause-failures : goal.returns-in-Err-clause-failures
returns-in-Err-clause-failures g c = c.in-Err.ensures.failures
