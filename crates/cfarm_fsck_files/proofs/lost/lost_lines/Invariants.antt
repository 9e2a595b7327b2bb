use Rattle.std.proofs.Common.{◌≡◌, [], drop}
use Rattle.std.specs.String.{string_bytes}
use Rattle.cfarm_fsck_files.specs.Lost.{with_nodes}
use Rattle.cfarm_fsck_files.proofs.lost.lost_lines.Given as goal

-- the lines of the first nodes are written
abbrev pub invariant-loop-node : goal.invariant-loop-node
invariant-loop-node l = with_nodes [] 0 l.found ≡ with_nodes (string_bytes l.text) l.node (drop l.node l.found)
