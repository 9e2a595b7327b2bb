use Rattle.std.proofs.Common.{◌≡◌, length}
use Rattle.cfarm_fsck_files.specs.Reading.{AreSome}
use Rattle.cfarm_fsck_files.proofs.reading.read_files.Given as goal

-- the files of the nodes so far
abbrev pub invariant-loop-node : goal.invariant-loop-node
invariant-loop-node g l = record {
  count : length l.found.items ≡ l.node;
  some : AreSome g.F.Files l.lock l.folder l.found.items;
}
