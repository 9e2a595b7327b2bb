-- What is read first changes nothing, so what the journal's call says of the disk holds of the disk as it was given.
use Rattle.std.proofs.Common.{ℕ, List, [], Err, sym, ap, subst, ◌∙◌, arith}
use Rattle.durable_model.specs.Honest.{risen_within}
use Rattle.durable_model_writes.specs.Writes.{overwritten}
use Rattle.acceptor_log_form.specs.Text.{journal_text, StandsFor}
use Rattle.acceptor_log_form.specs.Fault.{HasFault}
use Rattle.farm_nodes_open_journals.proofs.InFront.{when_true, when_false, both_ways, unchanged_over, read_moment, and_then}
use Rattle.farm_nodes_open_journals.proofs.journal.open_journal.Goals as goal

pub returns-in-Err-clause-any_moment : goal.returns-in-Err-clause-any_moment
returns-in-Err-clause-any_moment g c honest some =
    let disk = g.D.Disk in
    let e = c.is_empty.ensures in
    read_moment disk c.args.disk c.is_empty.new.disk (λ f left. g.met.D.Disk.only_now c.args.disk f honest left) (e.time honest) (e.unchanged honest).nothing_new

pub returns-in-Err-clause-refused : goal.returns-in-Err-clause-refused
returns-in-Err-clause-refused g c honest memory device = absurd (memory (c.in-Err.ensures.faults device))

pub returns-in-Err-clause-failed : goal.returns-in-Err-clause-failed
returns-in-Err-clause-failed g c device = c.is_empty.ensures.failed (c.in-Err.is ∙ ap (λ e. Err e) device)

pub returns-in-Ok-create-clause-honest : goal.returns-in-Ok-create-clause-honest
returns-in-Ok-create-clause-honest g c = both_ways c.in-Ok-create.ensures.honest c.is_empty.ensures.honest

pub returns-in-Ok-create-clause-acknowledged : goal.returns-in-Ok-create-clause-acknowledged
returns-in-Ok-create-clause-acknowledged g c honest = c.in-Ok-create.ensures.none (c.is_empty.ensures.honest.1 honest) ∙ sym c.new.ensures.items

pub returns-in-Ok-create-clause-begun : goal.returns-in-Ok-create-clause-begun
returns-in-Ok-create-clause-begun g c honest none = c.new.ensures.items

pub returns-in-Ok-create-clause-bytes : goal.returns-in-Ok-create-clause-bytes
returns-in-Ok-create-clause-bytes g c honest none =
    let same = (c.is_empty.ensures.unchanged honest).same in
    c.in-Ok-create.ensures.bytes (c.is_empty.ensures.honest.1 honest)
    ∙ ap (λ (bytes : List ℕ). overwritten bytes 0 (journal_text c.args.header.now [])) (same ∙ none)

pub returns-in-Ok-create-clause-listed : goal.returns-in-Ok-create-clause-listed
returns-in-Ok-create-clause-listed g c honest some = absurd (some (when_true c.in-Ok.empty _ _ (c.in-Ok.ensures.told honest) c.if-empty.true))

pub returns-in-Ok-create-clause-unchanged : goal.returns-in-Ok-create-clause-unchanged
returns-in-Ok-create-clause-unchanged g c honest some = absurd (some (when_true c.in-Ok.empty _ _ (c.in-Ok.ensures.told honest) c.if-empty.true))

pub returns-in-Ok-create-clause-any_moment : goal.returns-in-Ok-create-clause-any_moment
returns-in-Ok-create-clause-any_moment g c honest some = absurd (some (when_true c.in-Ok.empty _ _ (c.in-Ok.ensures.told honest) c.if-empty.true))

pub returns-in-Err-create-clause-honest : goal.returns-in-Err-create-clause-honest
returns-in-Err-create-clause-honest g c = both_ways c.in-Err-create.ensures.honest c.is_empty.ensures.honest

pub returns-in-Err-create-clause-unchanged : goal.returns-in-Err-create-clause-unchanged
returns-in-Err-create-clause-unchanged g c honest some = absurd (some (when_true c.in-Ok.empty _ _ (c.in-Ok.ensures.told honest) c.if-empty.true))

pub returns-in-Err-create-clause-any_moment : goal.returns-in-Err-create-clause-any_moment
returns-in-Err-create-clause-any_moment g c honest some = absurd (some (when_true c.in-Ok.empty _ _ (c.in-Ok.ensures.told honest) c.if-empty.true))

pub returns-in-Err-create-clause-refused : goal.returns-in-Err-create-clause-refused
returns-in-Err-create-clause-refused g c honest memory device = absurd (memory (c.in-Err-create.ensures.faults device))

pub returns-in-Err-create-clause-unwritten : goal.returns-in-Err-create-clause-unwritten
returns-in-Err-create-clause-unwritten g c honest device =
    let disk = g.D.Disk in
    unchanged_over disk c.args.disk c.is_empty.new.disk c.in-Err-create.refused.0 (c.is_empty.ensures.unchanged honest)
    (c.in-Err-create.ensures.unwritten (c.is_empty.ensures.honest.1 honest) device)

pub returns-in-Err-create-clause-failed : goal.returns-in-Err-create-clause-failed
returns-in-Err-create-clause-failed g c device =
    let faults = g.D.Disk.faults in
    risen_within (faults c.args.disk) (faults c.is_empty.new.disk) (faults c.in-Err-create.refused.0) (faults c.in-Err-create.refused.0) c.is_empty.ensures.later (c.in-Err-create.ensures.failed device) (omega arith)

pub returns-in-Ok-open-clause-honest : goal.returns-in-Ok-open-clause-honest
returns-in-Ok-open-clause-honest g c = both_ways c.in-Ok-open.ensures.honest c.is_empty.ensures.honest

pub returns-in-Ok-open-clause-begun : goal.returns-in-Ok-open-clause-begun
returns-in-Ok-open-clause-begun g c honest none = absurd (when_false c.in-Ok.empty _ _ (c.in-Ok.ensures.told honest) c.if-empty.false none)

pub returns-in-Ok-open-clause-bytes : goal.returns-in-Ok-open-clause-bytes
returns-in-Ok-open-clause-bytes g c honest none = absurd (when_false c.in-Ok.empty _ _ (c.in-Ok.ensures.told honest) c.if-empty.false none)

pub returns-in-Ok-open-clause-acknowledged : goal.returns-in-Ok-open-clause-acknowledged
returns-in-Ok-open-clause-acknowledged g c honest = c.in-Ok-open.ensures.acknowledged (c.is_empty.ensures.honest.1 honest)

pub returns-in-Ok-open-clause-listed : goal.returns-in-Ok-open-clause-listed
returns-in-Ok-open-clause-listed g c honest some =
    subst (λ (bytes : List ℕ). StandsFor c.args.header.now c.in-Ok-open.opened.1.items bytes) (c.is_empty.ensures.unchanged honest).same (c.in-Ok-open.ensures.listed (c.is_empty.ensures.honest.1 honest))

pub returns-in-Ok-open-clause-unchanged : goal.returns-in-Ok-open-clause-unchanged
returns-in-Ok-open-clause-unchanged g c honest some =
    let disk = g.D.Disk in
    unchanged_over disk c.args.disk c.is_empty.new.disk c.in-Ok-open.opened.0.disk (c.is_empty.ensures.unchanged honest)
    (c.in-Ok-open.ensures.unchanged (c.is_empty.ensures.honest.1 honest))

pub returns-in-Ok-open-clause-any_moment : goal.returns-in-Ok-open-clause-any_moment
returns-in-Ok-open-clause-any_moment g c honest some =
    let disk = g.D.Disk in
    let e = c.is_empty.ensures in
    let first = read_moment disk c.args.disk c.is_empty.new.disk (λ f left. g.met.D.Disk.only_now c.args.disk f honest left) (e.time honest) (e.unchanged honest).nothing_new in
    and_then disk c.args.disk c.is_empty.new.disk c.in-Ok-open.opened.0.disk first (e.unchanged honest).nothing_new
    (c.in-Ok-open.ensures.any_moment (e.honest.1 honest))

pub returns-in-Err-open-clause-honest : goal.returns-in-Err-open-clause-honest
returns-in-Err-open-clause-honest g c = both_ways c.in-Err-open.ensures.honest c.is_empty.ensures.honest

pub returns-in-Err-open-clause-unchanged : goal.returns-in-Err-open-clause-unchanged
returns-in-Err-open-clause-unchanged g c honest some =
    let disk = g.D.Disk in
    unchanged_over disk c.args.disk c.is_empty.new.disk c.in-Err-open.refused.0 (c.is_empty.ensures.unchanged honest)
    (c.in-Err-open.ensures.unchanged (c.is_empty.ensures.honest.1 honest))

pub returns-in-Err-open-clause-unwritten : goal.returns-in-Err-open-clause-unwritten
returns-in-Err-open-clause-unwritten g c honest device =
    let disk = g.D.Disk in
    unchanged_over disk c.args.disk c.is_empty.new.disk c.in-Err-open.refused.0 (c.is_empty.ensures.unchanged honest)
    (c.in-Err-open.ensures.unchanged (c.is_empty.ensures.honest.1 honest))

pub returns-in-Err-open-clause-any_moment : goal.returns-in-Err-open-clause-any_moment
returns-in-Err-open-clause-any_moment g c honest some =
    let disk = g.D.Disk in
    let e = c.is_empty.ensures in
    let first = read_moment disk c.args.disk c.is_empty.new.disk (λ f left. g.met.D.Disk.only_now c.args.disk f honest left) (e.time honest) (e.unchanged honest).nothing_new in
    and_then disk c.args.disk c.is_empty.new.disk c.in-Err-open.refused.0 first (e.unchanged honest).nothing_new
    (c.in-Err-open.ensures.any_moment (e.honest.1 honest))

pub returns-in-Err-open-clause-refused : goal.returns-in-Err-open-clause-refused
returns-in-Err-open-clause-refused g c honest memory device =
    let same = (c.is_empty.ensures.unchanged honest).same in
    let fault = c.in-Err-open.ensures.refused (c.is_empty.ensures.honest.1 honest) memory device in (
      when_false c.in-Ok.empty _ _ (c.in-Ok.ensures.told honest) c.if-empty.false,
      subst (λ (bytes : List ℕ). HasFault c.args.header.now bytes c.in-Err-open.refused.1) same fault,
    )

pub returns-in-Err-open-clause-failed : goal.returns-in-Err-open-clause-failed
returns-in-Err-open-clause-failed g c device =
    let faults = g.D.Disk.faults in
    risen_within (faults c.args.disk) (faults c.is_empty.new.disk) (faults c.in-Err-open.refused.0) (faults c.in-Err-open.refused.0) c.is_empty.ensures.later (c.in-Err-open.ensures.failed device) (omega arith)
