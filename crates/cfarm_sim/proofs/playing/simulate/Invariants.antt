use Rattle.std.proofs.Common.{length}
use Rattle.cfarm_sim.specs.Rooms.{room_of}
use Rattle.cfarm_sim.proofs.Going.{IsGoing}
use Rattle.cfarm_sim.proofs.playing.simulate.Given as goal

abbrev pub invariant-loop-rest : goal.invariant-loop-rest
invariant-loop-rest g l = IsGoing l.schedule l.room.quorums l.number l.rest (room_of l.room) (g.W.Write.contents l.fn.out) (g.W.Write.contents l.out)

abbrev pub decreases-loop-rest : goal.decreases-loop-rest
decreases-loop-rest g l = length l.rest
