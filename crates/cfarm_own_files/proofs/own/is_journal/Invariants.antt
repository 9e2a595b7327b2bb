use Rattle.cfarm_own_files.specs.Own.{IsNoJournalBelow}
use Rattle.cfarm_own_files.proofs.own.is_journal.Given as goal

-- the path leads to no journal of the nodes so far
abbrev pub invariant-loop-node : goal.invariant-loop-node
invariant-loop-node g l = IsNoJournalBelow g.F.Files l.files l.folder l.path l.node
