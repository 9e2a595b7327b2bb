-- Why `seats_of_all` may call `seats_of` and `node_by_node`.
use denote.Param.Send.{sendable}
use Rattle.std.proofs.Common.{◌∙◌, sym}
use Rattle.rooms_function.proofs.Passes.{dealt_many}
use Rattle.rooms_function.proofs.Sent.{function_send, function_sync}
use Rattle.rooms_function.proofs.opening.seats_of_all.Goals as goal

pub seats_of-requires-3-send-P-Out-Fun : goal.seats_of-requires-3-send-P-Out-Fun
seats_of-requires-3-send-P-Out-Fun c κs = search (function_send, sendable) depth 40

pub seats_of-requires-3-sync-P-Out-Fun : goal.seats_of-requires-3-sync-P-Out-Fun
seats_of-requires-3-sync-P-Out-Fun c κs = search (function_sync, sendable) depth 40

pub seats_of-requires-4-send-P-In-Fun : goal.seats_of-requires-4-send-P-In-Fun
seats_of-requires-4-send-P-In-Fun c κs = search (function_send, sendable) depth 40

pub seats_of-requires-4-sync-P-In-Fun : goal.seats_of-requires-4-sync-P-In-Fun
seats_of-requires-4-sync-P-In-Fun c κs = search (function_sync, sendable) depth 40

pub node_by_node-requires : goal.node_by_node-requires
node_by_node-requires c =
    let one = dealt_many c.args.dealers.first.table c.args.dealers.first.opening c.args.offers.first.items c.in-Ok.seats.items c.in-Ok.ensures.ok in
    record {
      second = dealt_many c.args.dealers.second.table c.args.dealers.second.opening c.args.offers.second.items c.in-Ok-seats_of.seats.items c.in-Ok-seats_of.ensures.ok ∙ (c.requires.count2 ∙ sym one);
      third = dealt_many c.args.dealers.third.table c.args.dealers.third.opening c.args.offers.third.items c.in-Ok-seats_of-2.seats.items c.in-Ok-seats_of-2.ensures.ok ∙ (c.requires.count3 ∙ sym one);
      fourth = dealt_many c.args.dealers.fourth.table c.args.dealers.fourth.opening c.args.offers.fourth.items c.in-Ok-seats_of-3.seats.items c.in-Ok-seats_of-3.ensures.ok ∙ (c.requires.count4 ∙ sym one);
    }
