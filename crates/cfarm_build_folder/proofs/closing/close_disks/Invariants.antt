use Rattle.std.proofs.Common.{◌≡◌, ◌≤◌, ◌<◌, ◌+◌, ◌^◌, length}
use Rattle.std.specs.Vec.Iter.{into_iter_items, into_iter_len}
use Rattle.cfarm_files.specs.Placing.{GivesNoMore, KeepsFolder}
use Rattle.cfarm_files.specs.Using.{Closed}
use Rattle.cfarm_files.proofs.Uses.{LeadsTo}
use Rattle.cfarm_build_folder.specs.Used.{closings, uses_from}
use Rattle.cfarm_build_folder.proofs.closing.close_disks.Given as goal

-- once the other disks are closed all are
abbrev pub invariant-loop-disk : goal.invariant-loop-disk
invariant-loop-disk g l = record {
  closes : LeadsTo (g.F.Files.used l.fn.files) (g.F.Files.used l.files) (uses_from Closed l.paths.folder.now l.node (into_iter_items l.disk-iterator))
      (closings l.paths.folder.now l.fn.disks.items);
  counted : into_iter_len l.disk-iterator ≡ length (into_iter_items l.disk-iterator);
  there : l.node + into_iter_len l.disk-iterator ≤ length l.paths.nodes.items;
  fits : l.node + into_iter_len l.disk-iterator < 2 ^ 64;
  kept : KeepsFolder (g.F.Files.placed l.fn.files) (g.F.Files.placed l.files);
  others : GivesNoMore (g.F.Files.may_give l.fn.files) (g.F.Files.may_give l.files);
}
