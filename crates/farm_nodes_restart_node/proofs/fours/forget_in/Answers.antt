-- Why `forget_in` may call `forget`.
use denote.Param.Send.{sendable}
use Rattle.farm_nodes_restart_records.proofs.Sent.{function_send, function_sync}
use Rattle.farm_nodes_restart_node.proofs.fours.forget_in.Goals as goal

pub forget-requires-3-send-P-Out-Fun : goal.forget-requires-3-send-P-Out-Fun
forget-requires-3-send-P-Out-Fun g c κs = search (function_send, sendable) depth 40

pub forget-requires-3-sync-P-Out-Fun : goal.forget-requires-3-sync-P-Out-Fun
forget-requires-3-sync-P-Out-Fun g c κs = search (function_sync, sendable) depth 40

pub forget-requires-4-send-P-In-Fun : goal.forget-requires-4-send-P-In-Fun
forget-requires-4-send-P-In-Fun g c κs = search (function_send, sendable) depth 40

pub forget-requires-4-sync-P-In-Fun : goal.forget-requires-4-sync-P-In-Fun
forget-requires-4-sync-P-In-Fun g c κs = search (function_sync, sendable) depth 40
