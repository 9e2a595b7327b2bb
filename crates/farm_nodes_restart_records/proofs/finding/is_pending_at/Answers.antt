-- Why `is_pending_at` meets its contract, and it may call `index` and `is_pending_in`.
use Rattle.std.proofs.Common.{IsTrue, arith}
use Rattle.farm_nodes_turn_passes.specs.Fours.{four_of}
use Rattle.farm_nodes_restart_records.proofs.Leaving.{asked_here, pending_here, room_within}
use Rattle.farm_nodes_restart_records.proofs.finding.is_pending_at.Goals as goal

pub index-requires : goal.index-requires
index-requires g c =
    let within = room_within four_of c.args.seats.now.items c.args.room c.args.pending.now c.requires in
    omega (arith, within, c.args.seats.now.ok.0)

pub is_pending_in-requires : goal.is_pending_in-requires
is_pending_in-requires g c = asked_here four_of c.args.seats.now.items c.args.room c.args.pending.now c.from.result c.index.result.now c.of_room.result c.from.ensures c.of_room.ensures c.index.ensures c.requires

pub returns : goal.returns
returns g c =
    pending_here four_of c.args.seats.now.items c.args.room c.args.pending.now c.from.result c.index.result.now c.of_room.result c.from.ensures c.of_room.ensures c.index.ensures c.requires
    (IsTrue c.is_pending_in.result) c.args.entry.now c.is_pending_in.ensures
