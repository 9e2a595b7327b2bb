use Rattle.std.proofs.Common.{◌≡◌, ◌++◌}
use Rattle.std.specs.Prelude.{codes}
use Rattle.std.specs.String.{string_bytes}
use Rattle.cfarm_sim.specs.Plays.{values}
use Rattle.cfarm_sim.specs.Rooms.{node_at}
use Rattle.cfarm_sim.proofs.playing.closing_of.Given as goal

-- the first nodes are told
abbrev pub invariant-loop-node : goal.invariant-loop-node
invariant-loop-node l = string_bytes l.text ≡ codes "learned:" ++ values l.node (node_at l.room)
