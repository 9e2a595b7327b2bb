-- Why `are_kept_at` meets its contract, and it may call `is_kept_in`.
use denote.Param.Send.{sendable}
use Rattle.std.proofs.Common.{IsTrue}
use Rattle.farm_nodes_turn_passes.specs.Fours.{four_of}
use Rattle.farm_nodes_turn_passes.proofs.Sent.{function_send, function_sync}
use Rattle.farm_nodes_restart_records.proofs.Keeping.{four_kept}
use Rattle.farm_nodes_restart_records.proofs.fours.are_kept_at.Goals as goal

pub is_kept_in-third-requires-send-P-Out-Fun : goal.is_kept_in-third-requires-send-P-Out-Fun
is_kept_in-third-requires-send-P-Out-Fun g c κs = search (function_send, sendable) depth 40

pub is_kept_in-third-requires-sync-P-Out-Fun : goal.is_kept_in-third-requires-sync-P-Out-Fun
is_kept_in-third-requires-sync-P-Out-Fun g c κs = search (function_sync, sendable) depth 40

pub is_kept_in-fourth-requires-send-P-In-Fun : goal.is_kept_in-fourth-requires-send-P-In-Fun
is_kept_in-fourth-requires-send-P-In-Fun g c κs = search (function_send, sendable) depth 40

pub is_kept_in-fourth-requires-sync-P-In-Fun : goal.is_kept_in-fourth-requires-sync-P-In-Fun
is_kept_in-fourth-requires-sync-P-In-Fun g c κs = search (function_sync, sendable) depth 40

pub returns : goal.returns
returns g c =
    four_kept c.args.parts.now c.args.place (four_of c.args.numbered.now)
    (IsTrue c.is_kept_in-first.result) (IsTrue c.is_kept_in-second.result) (IsTrue c.is_kept_in-third.result) (IsTrue c.is_kept_in-fourth.result)
    (IsTrue c.both-front.result) (IsTrue c.both-back.result) (IsTrue c.both.result)
    c.is_kept_in-first.ensures c.is_kept_in-second.ensures c.is_kept_in-third.ensures c.is_kept_in-fourth.ensures
    c.both-front.ensures c.both-back.ensures c.both.ensures
