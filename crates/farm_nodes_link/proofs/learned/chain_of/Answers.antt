-- Functions of the passes may be sent to other threads.
use denote.Param.Send.{sendable}
use Rattle.farm_nodes_meet_seats.proofs.Sent.{function_send, function_sync}
use Rattle.farm_nodes_link.proofs.learned.chain_of.Goals as goal

pub learned_offer-requires-3-send-P-Out-Fun : goal.learned_offer-requires-3-send-P-Out-Fun
learned_offer-requires-3-send-P-Out-Fun g c κs = search (function_send, sendable) depth 40

pub learned_offer-requires-3-sync-P-Out-Fun : goal.learned_offer-requires-3-sync-P-Out-Fun
learned_offer-requires-3-sync-P-Out-Fun g c κs = search (function_sync, sendable) depth 40

pub learned_offer-requires-4-send-P-In-Fun : goal.learned_offer-requires-4-send-P-In-Fun
learned_offer-requires-4-send-P-In-Fun g c κs = search (function_send, sendable) depth 40

pub learned_offer-requires-4-sync-P-In-Fun : goal.learned_offer-requires-4-sync-P-In-Fun
learned_offer-requires-4-sync-P-In-Fun g c κs = search (function_sync, sendable) depth 40
