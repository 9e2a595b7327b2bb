use Rattle.std.proofs.Common.{◌≡◌, take}
use Rattle.farm_nodes_open_seats.specs.Kept.{kept_of}
use Rattle.cfarm_fsck_chosen.proofs.parts.room_parts.Given as goal

-- what the nodes so far have kept of the room
abbrev pub invariant-loop-node : goal.invariant-loop-node
invariant-loop-node l = l.parts.items ≡ kept_of (take l.node-index l.kept) l.room
