-- Why `step_over` meets its clauses `stepped`, `in_order` and `refused`, and it may call `find` and `take_pending`.
use Rattle.std.proofs.Common.{◌*◌, length, refl, sym, subst, inr}
use Rattle.farm_nodes_restart_records.specs.Fours.{fours_of}
use Rattle.farm_nodes_restart_records.specs.Offers.{IsConstants, IsExpressions, IsAllocation, IsOrder}
use Rattle.farm_nodes_restart_seat.specs.declared.fault.RestartFault.{RestartFault}
use Rattle.farm_nodes_restart_records.specs.declared.finding.Found.TheVariants as found
use Rattle.farm_nodes_restart_records.specs.Texts.{pass_texts}
use Rattle.farm_nodes_restart_node.specs.Returned.{HoldsBack}
use Rattle.farm_nodes_restart_records.proofs.Leaving.{asked, pends}
use Rattle.farm_nodes_restart_node.proofs.Afterwards.{found_at, stepped_taken}
use Rattle.farm_nodes_restart_node.proofs.Refusing.{held_taken, out_of_order, when_ok}
use Rattle.farm_nodes_restart_node.proofs.returning.step_over.Goals as goal

pub find-requires-clause-asked : goal.find-requires-clause-asked
find-requires-clause-asked g c = asked IsConstants IsExpressions IsAllocation IsOrder c.args.room (fours_of c.args.seats.now.items) c.args.pending.now c.requires.pending

pub take_pending-requires-clause-some : goal.take_pending-requires-clause-some
take_pending-requires-clause-some g c = pends pass_texts (fours_of c.args.seats.now.items) c.args.room c.args.pending.now c.args.records.now (found_at pass_texts (fours_of c.args.seats.now.items) c.args.room c.args.pending.now c.args.records.now c.in-Ok-Pending.field-0 found.Pending c.in-Ok-Pending.field-0-is c.in-Ok-Pending.ensures.found)

pub returns-in-Ok-Pending-clause-stepped : goal.returns-in-Ok-Pending-clause-stepped
returns-in-Ok-Pending-clause-stepped g c =
    stepped_taken IsConstants IsExpressions IsAllocation IsOrder c.take_pending.result c.args.room c.args.pending.now c.args.records.now (fours_of c.args.seats.now.items) (fours_of c.take_pending.new.seats.items)
    (found_at pass_texts (fours_of c.args.seats.now.items) c.args.room c.args.pending.now c.args.records.now c.in-Ok-Pending.field-0 found.Pending c.in-Ok-Pending.field-0-is c.in-Ok-Pending.ensures.found) c.take_pending.ensures.ok

pub returns-in-Ok-Pending-clause-in_order : goal.returns-in-Ok-Pending-clause-in_order
returns-in-Ok-Pending-clause-in_order g c = when_ok c.take_pending.result c.in-Ok-Pending.ensures.in_order

pub returns-in-Ok-Pending-clause-refused : goal.returns-in-Ok-Pending-clause-refused
returns-in-Ok-Pending-clause-refused g c =
    held_taken pass_texts c.args.header.now (4 * length c.args.seats.now.items) (fours_of c.args.seats.now.items) c.args.room c.args.records.now
    c.in-Ok-Pending.ensures.in_order c.args.pending.now c.take_pending.result
    (found_at pass_texts (fours_of c.args.seats.now.items) c.args.room c.args.pending.now c.args.records.now c.in-Ok-Pending.field-0 found.Pending c.in-Ok-Pending.field-0-is c.in-Ok-Pending.ensures.found)
    c.take_pending.ensures.faults

pub returns-in-Ok-Whole-clause-stepped : goal.returns-in-Ok-Whole-clause-stepped
returns-in-Ok-Whole-clause-stepped g c =
    let whole = found_at pass_texts (fours_of c.args.seats.now.items) c.args.room c.args.pending.now c.args.records.now c.in-Ok-Whole.field-0 found.Whole c.in-Ok-Whole.field-0-is c.in-Ok-Whole.ensures.found in
    inr (whole.0, whole.1, refl)

pub returns-in-Ok-Neither-clause-refused : goal.returns-in-Ok-Neither-clause-refused
returns-in-Ok-Neither-clause-refused g c = (
  c.in-Ok-Neither.ensures.in_order,
  found_at pass_texts (fours_of c.args.seats.now.items) c.args.room c.args.pending.now c.args.records.now c.in-Ok-Neither.field-0 found.Neither c.in-Ok-Neither.field-0-is c.in-Ok-Neither.ensures.found,
)

pub returns-in-Err-clause-refused : goal.returns-in-Err-clause-refused
returns-in-Err-clause-refused g c =
    subst (λ (f : RestartFault). HoldsBack pass_texts c.args.header.now (4 * length c.args.seats.now.items) (fours_of c.args.seats.now.items) c.args.room c.args.pending.now c.args.records.now f)
    (sym c.of.ensures)
    (out_of_order pass_texts c.args.header.now (4 * length c.args.seats.now.items) (fours_of c.args.seats.now.items) c.args.room c.args.pending.now c.args.records.now c.in-Err.error c.in-Err.ensures.refused)
