-- Why `turn` may call `turn`.
use denote.Param.Send.{sendable}
use Rattle.rooms_function.proofs.Sent.{function_send, function_sync}
use Rattle.cfarm_settle.proofs.settler.turn.Goals as goal

pub turn-requires-send-O-P-In-Fun : goal.turn-requires-send-O-P-In-Fun
turn-requires-send-O-P-In-Fun c κs = search (function_send, sendable) depth 40

pub turn-requires-sync-O-P-In-Fun : goal.turn-requires-sync-O-P-In-Fun
turn-requires-sync-O-P-In-Fun c κs = search (function_sync, sendable) depth 40
