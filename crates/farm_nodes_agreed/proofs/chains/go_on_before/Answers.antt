-- Why `go_on_before` may call `follows`.
use denote.Param.Send.{sendable}
use Rattle.farm_nodes_turn_passes.proofs.Sent.{function_send, function_sync}
use Rattle.farm_nodes_agreed.proofs.chains.go_on_before.Goals as goal

pub follows-requires-then-follows-send-Q-Out-Fun : goal.follows-requires-then-follows-send-Q-Out-Fun
follows-requires-then-follows-send-Q-Out-Fun g c κs = search (function_send, sendable) depth 40

pub follows-requires-then-follows-sync-Q-Out-Fun : goal.follows-requires-then-follows-sync-Q-Out-Fun
follows-requires-then-follows-sync-Q-Out-Fun g c κs = search (function_sync, sendable) depth 40
