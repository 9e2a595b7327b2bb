-- Why `seat_of` may call `into_seat`.
use denote.Param.Send.{sendable}
use Rattle.rooms_function.proofs.Sent.{function_send, function_sync}
use Rattle.cfarm_settle.proofs.settler.seat_of.Goals as goal

pub into_seat-requires-send-O-P-In-Fun : goal.into_seat-requires-send-O-P-In-Fun
into_seat-requires-send-O-P-In-Fun c κs = search (function_send, sendable) depth 40

pub into_seat-requires-sync-O-P-In-Fun : goal.into_seat-requires-sync-O-P-In-Fun
into_seat-requires-sync-O-P-In-Fun c κs = search (function_sync, sendable) depth 40
