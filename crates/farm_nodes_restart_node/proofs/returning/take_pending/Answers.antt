-- Why `take_pending` meets its clauses `ok` and `faults`, and it may call `take_at`.
use Rattle.farm_nodes_restart_records.specs.Fours.{fours_of}
use Rattle.farm_nodes_restart_records.specs.Offers.{IsConstants, IsExpressions, IsAllocation, IsOrder}
use Rattle.farm_nodes_restart_node.proofs.Afterwards.{is_taken, may_at}
use Rattle.farm_nodes_restart_node.proofs.Refusing.{take_fault}
use Rattle.farm_nodes_restart_node.proofs.returning.take_pending.Goals as goal

pub take_at-requires : goal.take_at-requires
take_at-requires g c = may_at IsConstants IsExpressions IsAllocation IsOrder c.args.room (fours_of c.args.seats.now.items) _ _ c.in-Some.is c.requires.pending

pub returns-clause-ok : goal.returns-clause-ok
returns-clause-ok g c =
    is_taken IsConstants IsExpressions IsAllocation IsOrder c.take_at.result c.args.room c.args.pending.now c.in-Some.pending (fours_of c.args.seats.now.items) (fours_of c.take_at.new.seats.items) c.in-Some.is c.take_at.ensures.ok

pub returns-clause-faults : goal.returns-clause-faults
returns-clause-faults g c = take_fault c.take_at.result c.args.pending.now c.in-Some.pending c.in-Some.is c.take_at.ensures.faults
