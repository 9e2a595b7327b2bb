-- Why `meet` may call `meet`.
use denote.Param.Send.{sendable}
use Rattle.rooms_function.proofs.Sent.{function_send, function_sync}
use Rattle.rooms_function.proofs.meeting.meet_functions.Goals as goal

pub meet_seats-requires-3-send-P-Out-Fun : goal.meet_seats-requires-3-send-P-Out-Fun
meet_seats-requires-3-send-P-Out-Fun c κs = search (function_send, sendable) depth 40

pub meet_seats-requires-3-sync-P-Out-Fun : goal.meet_seats-requires-3-sync-P-Out-Fun
meet_seats-requires-3-sync-P-Out-Fun c κs = search (function_sync, sendable) depth 40

pub meet_seats-requires-4-send-P-In-Fun : goal.meet_seats-requires-4-send-P-In-Fun
meet_seats-requires-4-send-P-In-Fun c κs = search (function_send, sendable) depth 40

pub meet_seats-requires-4-sync-P-In-Fun : goal.meet_seats-requires-4-sync-P-In-Fun
meet_seats-requires-4-sync-P-In-Fun c κs = search (function_sync, sendable) depth 40
