use Rattle.std.proofs.Common.{◌≡◌, drop}
use Rattle.cfarm_fsck_files.specs.Lost.{have_records}
use Rattle.cfarm_fsck_files.proofs.lost.have_records.Given as goal

-- none of the first nodes has records
abbrev pub invariant-loop-node : goal.invariant-loop-node
invariant-loop-node l = have_records l.found ≡ have_records (drop l.node l.found)
