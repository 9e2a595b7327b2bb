use Rattle.std.proofs.Common.{length}
use Rattle.std.specs.String.{string_bytes}
use Rattle.cfarm_sim.specs.Rooms.{room_of}
use Rattle.cfarm_sim_svg.proofs.Going.{IsDrawing}
use Rattle.cfarm_sim_svg.proofs.playing.play.Given as goal

abbrev pub invariant-loop-rest : goal.invariant-loop-rest
invariant-loop-rest l =
    IsDrawing l.schedule l.playing.room.quorums l.playing.row l.rest (room_of l.playing.room) l.playing.sent.items (string_bytes l.playing.body)

abbrev pub decreases-loop-rest : goal.decreases-loop-rest
decreases-loop-rest l = length l.rest
