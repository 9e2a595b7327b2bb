-- Why `return_over` meets its clauses `seats`, `in_order`, `count`, `err` and 1 more.
use Rattle.std.proofs.Common.{◌∙◌}
use Rattle.farm_nodes_restart_records.specs.Offers.{IsConstants, IsExpressions, IsAllocation, IsOrder}
use Rattle.farm_nodes_restart_records.specs.Fours.{fours_of}
use Rattle.farm_nodes_restart_node.proofs.Afterwards.{returned}
use Rattle.farm_nodes_restart_node.proofs.returning.return_over.Goals as goal

pub returns-in-Ok-clause-seats : goal.returns-in-Ok-clause-seats
returns-in-Ok-clause-seats g c =
    returned IsConstants IsExpressions IsAllocation IsOrder c.args.room c.args.pending.now c.args.records.now (fours_of c.args.seats.now.items) _ _ c.in-Ok.ensures.stepped c.forget_all.ensures.forgot

pub returns-in-Ok-clause-in_order : goal.returns-in-Ok-clause-in_order
returns-in-Ok-clause-in_order g c = c.in-Ok.ensures.in_order

pub returns-in-Ok-clause-count : goal.returns-in-Ok-clause-count
returns-in-Ok-clause-count g c = c.forget_all.ensures.count ∙ c.step_over.ensures.count

pub returns-in-Err-clause-err : goal.returns-in-Err-clause-err
returns-in-Err-clause-err g c = c.in-Err.ensures.err

pub returns-in-Err-clause-count : goal.returns-in-Err-clause-count
returns-in-Err-clause-count g c = c.step_over.ensures.count

pub returns-in-Err-clause-refused : goal.returns-in-Err-clause-refused
returns-in-Err-clause-refused g c = c.in-Err.ensures.refused
