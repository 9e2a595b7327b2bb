use Rattle.std.proofs.Common.{◌≡◌, length}
use Rattle.cfarm_sim.proofs.Fresh.{AreNew}
use Rattle.cfarm_sim.proofs.room.Room.new.Given as goal

abbrev pub invariant-loop-me : goal.invariant-loop-me
invariant-loop-me l = record { all : length l.nodes.items ≡ l.me; new : AreNew l.quorums l.nodes.items }
