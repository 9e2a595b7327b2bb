use Rattle.std.proofs.Common.{length}
use Rattle.farm_nodes_open_stored.specs.Nodes.{AreMade}
use Rattle.farm_nodes_open_stored.specs.Read.{IsKeptPart, IsStoredPart}
use Rattle.farm_nodes_open_stored.proofs.reading.read_nodes.Given as goal

-- what stands in the journals of the nodes so far
abbrev pub invariant-loop-node : goal.invariant-loop-node
invariant-loop-node g l = record {
  kept : AreMade (IsKeptPart l.functions (length l.journals)) l.journals l.node l.kept.items;
  stored : AreMade IsStoredPart l.journals l.node l.stored.items;
}
