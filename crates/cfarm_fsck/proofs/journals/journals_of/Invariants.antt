use Rattle.farm_nodes_open_seats.specs.Nodes.{AreMade}
use Rattle.cfarm_fsck.specs.Folder.{IsJournalIn}
use Rattle.cfarm_fsck.proofs.journals.journals_of.Given as goal

-- the journals of the nodes so far
abbrev pub invariant-loop-node : goal.invariant-loop-node
invariant-loop-node l = AreMade (IsJournalIn l.quorums l.digest) l.files l.node l.journals.items
