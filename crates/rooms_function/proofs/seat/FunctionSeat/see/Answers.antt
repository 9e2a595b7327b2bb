-- Why `see` may call `see`.
use denote.Param.Send.{sendable}
use Rattle.rooms_function.proofs.Sent.{function_send, function_sync}
use Rattle.rooms_function.proofs.seat.FunctionSeat.see.Goals as goal

pub see-requires-in-3-send-P-Out-Fun : goal.see-requires-in-3-send-P-Out-Fun
see-requires-in-3-send-P-Out-Fun c κs = search (function_send, sendable) depth 40

pub see-requires-in-3-sync-P-Out-Fun : goal.see-requires-in-3-sync-P-Out-Fun
see-requires-in-3-sync-P-Out-Fun c κs = search (function_sync, sendable) depth 40

pub see-requires-in_default-send-P-In-Fun : goal.see-requires-in_default-send-P-In-Fun
see-requires-in_default-send-P-In-Fun c κs = search (function_send, sendable) depth 40

pub see-requires-in_default-sync-P-In-Fun : goal.see-requires-in_default-sync-P-In-Fun
see-requires-in_default-sync-P-In-Fun c κs = search (function_sync, sendable) depth 40
