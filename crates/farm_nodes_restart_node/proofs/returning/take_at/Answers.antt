-- Why `take_at` meets its clauses `ok` and `err`, and it may call `take_in`.
use Rattle.farm_nodes_restart_records.specs.Fours.{four_of}
use Rattle.farm_nodes_restart_records.specs.Offers.{IsConstants, IsExpressions, IsAllocation, IsOrder}
use Rattle.farm_nodes_restart_seat.proofs.Places.{err_same_seen}
use Rattle.farm_nodes_restart_node.proofs.Afterwards.{pending_lent, pending_there, took_lent}
use Rattle.farm_nodes_restart_node.proofs.returning.take_at.Goals as goal

pub take_in-requires : goal.take_in-requires
take_in-requires g c =
    pending_lent IsConstants IsExpressions IsAllocation IsOrder four_of c.args.seats.now.items c.args.room c.args.pending.now c.requires
    c.from.result c.in-Some.four.now c.from.ensures c.in-Some.ensures.value c.of_room.result c.of_room.ensures

pub returns-clause-ok : goal.returns-clause-ok
returns-clause-ok g c =
    took_lent IsConstants IsExpressions IsAllocation IsOrder four_of c.args.seats.now.items c.args.room c.args.pending.now c.requires
    c.from.result c.in-Some.four.now c.from.ensures c.in-Some.ensures.value c.of_room.result c.take_in.new.numbered c.take_in.result c.of_room.ensures
    c.take_in.ensures.ok

pub returns-clause-err : goal.returns-clause-err
returns-clause-err g c =
    err_same_seen four_of c.from.result c.args.seats.now.items c.in-Some.four.now c.take_in.new.numbered c.take_in.result
    (pending_there IsConstants IsExpressions IsAllocation IsOrder four_of c.args.seats.now.items c.args.room c.args.pending.now c.requires
    c.from.result c.in-Some.four.now c.from.ensures c.in-Some.ensures.value)
    c.take_in.ensures.err
