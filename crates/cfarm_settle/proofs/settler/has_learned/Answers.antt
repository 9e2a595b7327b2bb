-- Why `has_learned` may call `has_learned`.
use denote.Param.Send.{sendable}
use Rattle.rooms_function.proofs.Sent.{function_send, function_sync}
use Rattle.cfarm_settle.proofs.settler.has_learned.Goals as goal

pub has_learned-requires-send-O-P-In-Fun : goal.has_learned-requires-send-O-P-In-Fun
has_learned-requires-send-O-P-In-Fun c κs = search (function_send, sendable) depth 40

pub has_learned-requires-sync-O-P-In-Fun : goal.has_learned-requires-sync-O-P-In-Fun
has_learned-requires-sync-O-P-In-Fun c κs = search (function_sync, sendable) depth 40
