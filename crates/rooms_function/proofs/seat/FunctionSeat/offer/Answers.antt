-- Why `offer` may call `offer`.
use denote.Param.Send.{sendable}
use Rattle.rooms_function.proofs.Sent.{function_send, function_sync}
use Rattle.rooms_function.proofs.seat.FunctionSeat.offer.Goals as goal

pub offer-requires-in-Allocation-send-P-Out-Fun : goal.offer-requires-in-Allocation-send-P-Out-Fun
offer-requires-in-Allocation-send-P-Out-Fun c κs = search (function_send, sendable) depth 40

pub offer-requires-in-Allocation-sync-P-Out-Fun : goal.offer-requires-in-Allocation-sync-P-Out-Fun
offer-requires-in-Allocation-sync-P-Out-Fun c κs = search (function_sync, sendable) depth 40

pub offer-requires-in-Order-send-P-In-Fun : goal.offer-requires-in-Order-send-P-In-Fun
offer-requires-in-Order-send-P-In-Fun c κs = search (function_send, sendable) depth 40

pub offer-requires-in-Order-sync-P-In-Fun : goal.offer-requires-in-Order-sync-P-In-Fun
offer-requires-in-Order-sync-P-In-Fun c κs = search (function_sync, sendable) depth 40
