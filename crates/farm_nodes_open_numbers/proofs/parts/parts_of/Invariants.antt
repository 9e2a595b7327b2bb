use Rattle.std.proofs.Common.{◌≡◌, take}
use Rattle.farm_nodes_open_numbers.specs.Kept.{parts_of}
use Rattle.farm_nodes_open_numbers.proofs.parts.parts_of.Given as goal

-- what the nodes so far have kept of the rooms
abbrev pub invariant-loop-node : goal.invariant-loop-node
invariant-loop-node l = l.parts.items ≡ parts_of (take l.node-index l.kept) l.function
