use Rattle.std.proofs.Common.{◌≡◌, length}
use Rattle.cfarm_build_folder.specs.Named.{AreNamed}
use Rattle.cfarm_build_folder.proofs.paths.JournalPaths.of.Given as goal

-- the paths of the nodes so far
abbrev pub invariant-loop-node : goal.invariant-loop-node
invariant-loop-node l = record {
  count : length l.nodes.items ≡ l.node;
  named : AreNamed l.folder l.nodes.items;
}
