-- Why `has_all` meets its contract, and it may call `has_learned_offer`.
use denote.Param.Send.{sendable}
use Rattle.farm_nodes_turn_passes.proofs.Sent.{function_send, function_sync}
use Rattle.farm_nodes_meet_seats.proofs.FourRooms.{has_all_told}
use Rattle.farm_nodes_meet_seats.proofs.functions.has_all.Goals as goal

pub returns : goal.returns
returns g c =
    has_all_told c.args.numbered.now.claim c.args.numbered.now.seat
    c.has_learned_offer.result c.has_learned_offer-2.result c.has_learned_offer-3.result c.has_learned_offer-4.result c.and-early.result c.and-late.result c.and.result
    c.has_learned_offer.ensures c.has_learned_offer-2.ensures c.has_learned_offer-3.ensures c.has_learned_offer-4.ensures
    c.and-early.ensures c.and-late.ensures c.and.ensures

pub has_learned_offer-requires-3-send-P-Out-Fun : goal.has_learned_offer-requires-3-send-P-Out-Fun
has_learned_offer-requires-3-send-P-Out-Fun g c κs = search (function_send, sendable) depth 40

pub has_learned_offer-requires-3-sync-P-Out-Fun : goal.has_learned_offer-requires-3-sync-P-Out-Fun
has_learned_offer-requires-3-sync-P-Out-Fun g c κs = search (function_sync, sendable) depth 40

pub has_learned_offer-requires-4-send-P-In-Fun : goal.has_learned_offer-requires-4-send-P-In-Fun
has_learned_offer-requires-4-send-P-In-Fun g c κs = search (function_send, sendable) depth 40

pub has_learned_offer-requires-4-sync-P-In-Fun : goal.has_learned_offer-requires-4-sync-P-In-Fun
has_learned_offer-requires-4-sync-P-In-Fun g c κs = search (function_sync, sendable) depth 40
