-- Functions of the passes may be sent to other threads.
use denote.Param.Send.{sendable}
use Rattle.farm_nodes_turn_node.proofs.Sent.{function_send, function_sync}
use Rattle.cfarm_build_turns.proofs.learning.has_learned.Goals as goal

pub learned-requires-then-is_some-2-send-P-Out-Fun : goal.learned-requires-then-is_some-2-send-P-Out-Fun
learned-requires-then-is_some-2-send-P-Out-Fun g c κs = search (function_send, sendable) depth 40

pub learned-requires-then-is_some-2-sync-P-Out-Fun : goal.learned-requires-then-is_some-2-sync-P-Out-Fun
learned-requires-then-is_some-2-sync-P-Out-Fun g c κs = search (function_sync, sendable) depth 40

pub learned-requires-then-is_some-3-send-P-In-Fun : goal.learned-requires-then-is_some-3-send-P-In-Fun
learned-requires-then-is_some-3-send-P-In-Fun g c κs = search (function_send, sendable) depth 40

pub learned-requires-then-is_some-3-sync-P-In-Fun : goal.learned-requires-then-is_some-3-sync-P-In-Fun
learned-requires-then-is_some-3-sync-P-In-Fun g c κs = search (function_sync, sendable) depth 40
