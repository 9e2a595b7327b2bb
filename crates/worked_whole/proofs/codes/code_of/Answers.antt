-- Functions of the last pass may be sent to other threads.
use denote.Param.Send.{sendable}
use Rattle.farm_nodes.proofs.Sent.{function_send, function_sync}
use Rattle.worked_whole.proofs.codes.code_of.Goals as goal

pub learned_offer-requires-send-P-In-Fun : goal.learned_offer-requires-send-P-In-Fun
learned_offer-requires-send-P-In-Fun g c κs = search (function_send, sendable) depth 40

pub learned_offer-requires-sync-P-In-Fun : goal.learned_offer-requires-sync-P-In-Fun
learned_offer-requires-sync-P-In-Fun g c κs = search (function_sync, sendable) depth 40
