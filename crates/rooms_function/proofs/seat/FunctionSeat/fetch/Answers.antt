-- Why `fetch` may call `fetch`.
use denote.Param.Send.{sendable}
use Rattle.rooms_function.proofs.Sent.{function_send, function_sync}
use Rattle.rooms_function.proofs.seat.FunctionSeat.fetch.Goals as goal

pub fetch-requires-in-3-send-P-Out-Fun : goal.fetch-requires-in-3-send-P-Out-Fun
fetch-requires-in-3-send-P-Out-Fun c κs = search (function_send, sendable) depth 40

pub fetch-requires-in-3-sync-P-Out-Fun : goal.fetch-requires-in-3-sync-P-Out-Fun
fetch-requires-in-3-sync-P-Out-Fun c κs = search (function_sync, sendable) depth 40

pub fetch-requires-in_default-send-P-In-Fun : goal.fetch-requires-in_default-send-P-In-Fun
fetch-requires-in_default-send-P-In-Fun c κs = search (function_send, sendable) depth 40

pub fetch-requires-in_default-sync-P-In-Fun : goal.fetch-requires-in_default-sync-P-In-Fun
fetch-requires-in_default-sync-P-In-Fun c κs = search (function_sync, sendable) depth 40
