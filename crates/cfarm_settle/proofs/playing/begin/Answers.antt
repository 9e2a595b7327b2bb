-- Why `begin` meets its contract, and it may call `open`.
use denote.Param.Send.{sendable}
use Rattle.std.proofs.Common.{◌∙◌}
use Rattle.rooms_function.proofs.Sent.{function_send, function_sync}
use Rattle.cfarm_settle_nodes.proofs.Nodes.{same_seats}
use Rattle.cfarm_settle.proofs.playing.begin.Goals as goal

pub returns : goal.returns
returns c =
    let n = c.in_ok-first in
    record {
      first = c.new.result;
      second = c.new-2.result;
      third = c.new-3.result;
      are = c.in_ok-all.ensures;
      seats = same_seats c.args.input.now c.new.result.node.seat c.new-2.result.node.seat c.new-3.result.node.seat n.first.seat n.second.seat n.third.seat
          n.ensures.seats c.new.ensures.seat c.new-2.ensures.seat c.new-3.ensures.seat;
      inputs = (c.new.ensures.input ∙ n.ensures.inputs.0, c.new-2.ensures.input ∙ n.ensures.inputs.1, c.new-3.ensures.input ∙ n.ensures.inputs.2);
    }

pub open-requires-send-O-P-In-Fun : goal.open-requires-send-O-P-In-Fun
open-requires-send-O-P-In-Fun c κs = search (function_send, sendable) depth 40

pub open-requires-sync-O-P-In-Fun : goal.open-requires-sync-O-P-In-Fun
open-requires-sync-O-P-In-Fun c κs = search (function_sync, sendable) depth 40
