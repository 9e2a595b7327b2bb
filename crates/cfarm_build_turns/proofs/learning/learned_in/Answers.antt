-- Functions of the passes may be sent to other threads.
use denote.Param.Send.{sendable}
use Rattle.farm_nodes_turn_node.proofs.Sent.{function_send, function_sync}
use Rattle.cfarm_build_turns.proofs.learning.learned_in.Goals as goal

pub learned-requires-3-send-P-Out-Fun : goal.learned-requires-3-send-P-Out-Fun
learned-requires-3-send-P-Out-Fun g c κs = search (function_send, sendable) depth 40

pub learned-requires-3-sync-P-Out-Fun : goal.learned-requires-3-sync-P-Out-Fun
learned-requires-3-sync-P-Out-Fun g c κs = search (function_sync, sendable) depth 40

pub learned-requires-4-send-P-In-Fun : goal.learned-requires-4-send-P-In-Fun
learned-requires-4-send-P-In-Fun g c κs = search (function_send, sendable) depth 40

pub learned-requires-4-sync-P-In-Fun : goal.learned-requires-4-sync-P-In-Fun
learned-requires-4-sync-P-In-Fun g c κs = search (function_sync, sendable) depth 40
