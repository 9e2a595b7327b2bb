use Rattle.std.proofs.Common.{◌≡◌, ◌≤◌, length}
use Rattle.std.specs.Prelude.{vec_capacity}
use Rattle.cfarm_files.specs.Placing.{GivesNoMore, Makes}
use Rattle.cfarm_files.specs.Using.{Uses}
use Rattle.cfarm_build_folder.specs.Disks.{AreSome, IsJournal}
use Rattle.cfarm_build_folder.specs.Used.{openings}
use Rattle.cfarm_build_folder.proofs.opening.open_disks.Given as goal

-- the disks of the nodes so far, each of which was opened
abbrev pub invariant-loop-node : goal.invariant-loop-node
invariant-loop-node g l = record {
  count : length l.disks.items ≡ l.node;
  capacity : l.count ≤ vec_capacity l.disks;
  some : AreSome (g.F.Files.may_give l.fn.files) l.paths.folder.now l.disks.items;
  opened : Uses (g.F.Files.used l.fn.files) (g.F.Files.used l.files) (openings l.paths.folder.now l.disks.items);
  made : Makes (g.F.Files.placed l.fn.files) (g.F.Files.placed l.files) (IsJournal l.paths.folder.now);
  others : GivesNoMore (g.F.Files.may_give l.fn.files) (g.F.Files.may_give l.files);
}
