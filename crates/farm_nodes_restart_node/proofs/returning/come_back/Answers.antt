-- Why `come_back` meets its clauses `sound`, `ok`, `honest`, `unchanged` and 8 more.
use Rattle.std.proofs.Common.{◌*◌, List, length, sym, ◌∙◌, subst}
use Rattle.acceptor_log_form.specs.declared.record.Record.{Record}
use Rattle.acceptor_log_form.specs.Order.{AreInOrder}
use Rattle.acceptor_log_form.specs.Text.{StandsFor}
use Rattle.farm_nodes_restart_records.specs.Offers.{IsConstants, IsExpressions, IsAllocation, IsOrder}
use Rattle.farm_nodes_restart_records.specs.Fours.{fours_of}
use Rattle.farm_nodes_restart_seat.specs.declared.fault.RestartFault.{RestartFault}
use Rattle.farm_nodes_restart_records.specs.Texts.{pass_texts}
use Rattle.farm_nodes_restart_node.specs.Returned.{HasReason, HoldsBack}
use Rattle.farm_nodes_restart_node.proofs.Afterwards.{returned_over}
use Rattle.farm_nodes_restart_node.proofs.Resting.{at_rest}
use Rattle.farm_nodes_restart_node.proofs.Refusing.{held_reason, journal_told, no_device, none_failed, not_opened, other_told}
use Rattle.farm_nodes_restart_node.proofs.returning.come_back.Goals as goal

pub returns-in-Ok-return_over-clause-sound : goal.returns-in-Ok-return_over-clause-sound
returns-in-Ok-return_over-clause-sound g c = c.in-Ok.ensures.sound

pub returns-in-Ok-return_over-clause-ok : goal.returns-in-Ok-return_over-clause-ok
returns-in-Ok-return_over-clause-ok g c = c.in-Ok.ensures.ok

pub returns-in-Ok-return_over-clause-honest : goal.returns-in-Ok-return_over-clause-honest
returns-in-Ok-return_over-clause-honest g c = c.in-Ok.ensures.honest

pub returns-in-Ok-return_over-clause-unchanged : goal.returns-in-Ok-return_over-clause-unchanged
returns-in-Ok-return_over-clause-unchanged g c = c.in-Ok.ensures.unchanged

pub returns-in-Ok-return_over-clause-any_moment : goal.returns-in-Ok-return_over-clause-any_moment
returns-in-Ok-return_over-clause-any_moment g c = c.in-Ok.ensures.any_moment

pub returns-in-Ok-return_over-clause-failures : goal.returns-in-Ok-return_over-clause-failures
returns-in-Ok-return_over-clause-failures g c =
    none_failed (g.D.Disk.faults c.args.disk) (g.D.Disk.faults c.in-Ok.opened.0.disk) c.in-Ok.ensures.later c.in-Ok.ensures.unfailed

pub returns-in-Ok-clause-failures : goal.returns-in-Ok-clause-failures
returns-in-Ok-clause-failures g c =
    rw c.into_disk.ensures
    (other_told (g.D.Disk.faults c.args.disk) (g.D.Disk.faults c.in-Ok.opened.0.disk) c.in-Err-return_over.fault
    (no_device pass_texts c.args.header.now (4 * length c.args.seats.now.items) (fours_of c.args.seats.now.items)
    c.args.room c.args.pending.now c.as_slice.result.now c.in-Err-return_over.fault c.in-Err-return_over.ensures.refused)
    c.in-Ok.ensures.later c.in-Ok.ensures.unfailed)

pub returns-clause-failures : goal.returns-clause-failures
returns-clause-failures g c =
    rw c.of.ensures
    (journal_told (g.D.Disk.faults c.args.disk) (g.D.Disk.faults c.in-Err.refused.0) c.in-Err.refused.1
    c.in-Err.ensures.later c.in-Err.ensures.failed c.in-Err.ensures.unfailed)

pub returns-in-Ok-return_over-clause-listed : goal.returns-in-Ok-return_over-clause-listed
returns-in-Ok-return_over-clause-listed g c honest =
    subst (λ (rs : List Record). StandsFor c.args.header.now rs (g.D.Disk.seen c.args.disk)) (sym (c.in-Ok.ensures.acknowledged honest)) (c.in-Ok.ensures.listed honest)

pub returns-in-Ok-return_over-clause-in_order : goal.returns-in-Ok-return_over-clause-in_order
returns-in-Ok-return_over-clause-in_order g c honest =
    subst (λ (rs : List Record). AreInOrder c.args.header.now.nodes c.args.header.now.node (4 * length c.args.seats.now.items) rs)
    (c.as_slice.ensures.value ∙ sym (c.in-Ok.ensures.acknowledged honest)) c.in-Ok-return_over.ensures.in_order

pub returns-in-Ok-return_over-clause-seats : goal.returns-in-Ok-return_over-clause-seats
returns-in-Ok-return_over-clause-seats g c honest =
    returned_over IsConstants IsExpressions IsAllocation IsOrder c.args.room c.args.pending.now c.as_slice.result.now _ (fours_of c.args.seats.now.items) _
    (c.as_slice.ensures.value ∙ sym (c.in-Ok.ensures.acknowledged honest)) c.in-Ok-return_over.ensures.seats

pub returns-in-Ok-return_over-clause-count : goal.returns-in-Ok-return_over-clause-count
returns-in-Ok-return_over-clause-count g c = c.return_over.ensures.count

pub returns-in-Ok-clause-refused : goal.returns-in-Ok-clause-refused
returns-in-Ok-clause-refused g c honest =
    let held = subst (λ (rs : List Record). HoldsBack pass_texts c.args.header.now (4 * length c.args.seats.now.items) (fours_of c.args.seats.now.items)
    c.args.room c.args.pending.now rs c.in-Err-return_over.fault) c.as_slice.ensures.value c.in-Err-return_over.ensures.refused in
    held_reason pass_texts c.args.header.now (4 * length c.args.seats.now.items) (fours_of c.args.seats.now.items) c.args.room c.args.pending.now
    (g.D.Disk.seen c.args.disk) c.in-Ok.opened.1.items c.in-Err-return_over.fault (c.in-Ok.ensures.listed honest) held

pub returns-in-Ok-return_over-clause-rest : goal.returns-in-Ok-return_over-clause-rest
returns-in-Ok-return_over-clause-rest g c =
    at_rest IsConstants IsExpressions IsAllocation IsOrder c.args.room c.args.pending.now c.as_slice.result.now (fours_of c.args.seats.now.items) _ c.in-Ok-return_over.ensures.seats

pub returns-clause-refused : goal.returns-clause-refused
returns-clause-refused g c honest =
    let rooms = 4 * length c.args.seats.now.items in
    let seats = fours_of c.args.seats.now.items in
    subst (λ (f : RestartFault). HasReason pass_texts c.args.header.now rooms seats c.args.room c.args.pending.now (g.D.Disk.seen c.args.disk) f) (sym c.of.ensures)
    (not_opened pass_texts c.args.header.now rooms seats c.args.room c.args.pending.now (g.D.Disk.seen c.args.disk) c.in-Err.refused.1 (c.in-Err.ensures.refused honest))
