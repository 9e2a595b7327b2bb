-- Why `act` meets its clause `journal`.
use Rattle.std.proofs.Common.{◌≡◌, List, ap, ◌∙◌, sym, subst}
use Rattle.acceptor_log_form.specs.declared.record.Record.{Record}
use Rattle.acceptor_log_form.specs.Text.{room_of}
use Rattle.acceptor_log_form.specs.Order.{MayComeNext}
use Rattle.acceptor_log.specs.Acknowledged.{acknowledged}
use Rattle.farm_nodes_turn_step.specs.JournalAdvances.{JournalAdvances}
use Rattle.farm_nodes_turn_order.proofs.Orders.{step_follows, step_goes}
use Rattle.farm_nodes_turn_order.proofs.Records.{room_of_step}
use Rattle.farm_nodes_turn_step.proofs.Results.{idle}
use Rattle.farm_nodes_turn_step.proofs.Runs.{one, perhaps}
use Rattle.farm_nodes_turn_step.proofs.Steps.{step_kept, pending_is, more}
use Rattle.farm_nodes_turn_step.proofs.acting.act.Goals as goal

pub returns-in-Ok-clause-journal : goal.returns-in-Ok-clause-journal
returns-in-Ok-clause-journal g c honest going =
    let disk = g.D.Disk in
    let old = c.args.log.now in
    let new = c.append.new.self in
    let r = c.record_of.result in
    let added = c.in-Ok.ensures.added honest going in
    let ready = c.append.ensures.sound (c.append.ensures.honest.1 honest) c.in-Ok.ensures.ok.1 in
    record {
      ready = ready;
      advances = one disk old new c.args.room c.args.seat.now c.take.new.seat r
          (step_follows c.args.room c.args.seat.now c.take.new.seat c.args.act c.in-Some.step r c.bounds.ensures c.requires.among c.in-Some.ensures c.record_of.ensures c.take.ensures
          (step_kept c.args.room c.args.seat.now c.take.new.seat c.args.act c.in-Some.step r c.in-Some.ensures c.record_of.ensures c.take.ensures))
          c.append.ensures.same ready added (c.append.ensures.any_moment honest going);
      moved = more (acknowledged disk.seen old) (acknowledged disk.seen new) r added;
    }

pub returns-clause-journal : goal.returns-clause-journal
returns-clause-journal g c honest going =
    let disk = g.D.Disk in
    let old = c.args.log.now in
    let new = c.append.new.self in
    let r = c.record_of.result in
    let s = c.args.seat.now in
    let pending = pending_is c.args.room c.args.seat.now c.args.act c.in-Some.step r c.in-Some.ensures c.record_of.ensures in (
      acknowledged disk.seen old,
      subst (λ (p : List Record). JournalAdvances disk old new c.args.room s s (acknowledged disk.seen old) p) (sym pending)
          (perhaps disk old new c.args.room s r
          (ap room_of c.record_of.ensures ∙ room_of_step c.args.room c.in-Some.step)
          (λ last fresh. subst (λ (q : Record). MayComeNext s.node.quorums.nodes s.node.me s.node.kept last q) (sym c.record_of.ensures)
          (step_goes c.args.room s c.bounds.ensures last fresh c.args.act c.in-Some.step c.requires.among c.in-Some.ensures))
          (λ b left later. g.met.D.Disk.counts_now new.disk (disk.moment old.disk) b (c.append.ensures.honest.1 honest) later left)
          (c.append.ensures.any_moment honest going)),
    )

pub returns-in_default-clause-journal : goal.returns-in_default-clause-journal
returns-in_default-clause-journal g c honest going =
    let disk = g.D.Disk in
    let log = c.args.log.now in
    idle disk log c.args.room c.args.seat.now (c.requires.sound honest going)
    (λ b left. g.met.D.Disk.only_now log.disk b honest left)
