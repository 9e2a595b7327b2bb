-- Why `leads` may call `leads` and `has_offered`.
use denote.Param.Send.{sendable}
use Rattle.rooms_function.proofs.Sent.{function_send, function_sync}
use Rattle.cfarm_settle.proofs.settler.leads.Goals as goal

pub leads-requires-send-O-P-In-Fun : goal.leads-requires-send-O-P-In-Fun
leads-requires-send-O-P-In-Fun c κs = search (function_send, sendable) depth 40

pub leads-requires-sync-O-P-In-Fun : goal.leads-requires-sync-O-P-In-Fun
leads-requires-sync-O-P-In-Fun c κs = search (function_sync, sendable) depth 40

pub has_offered-requires-send-O-P-In-Fun : goal.has_offered-requires-send-O-P-In-Fun
has_offered-requires-send-O-P-In-Fun c κs = search (function_send, sendable) depth 40

pub has_offered-requires-sync-O-P-In-Fun : goal.has_offered-requires-sync-O-P-In-Fun
has_offered-requires-sync-O-P-In-Fun c κs = search (function_sync, sendable) depth 40
