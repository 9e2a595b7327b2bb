use Rattle.std.proofs.Common.{◌≡◌, ◌++◌, take}
use Rattle.std.specs.String.{string_bytes}
use Rattle.cfarm_fsck.specs.Lines.{voters_from}
use Rattle.cfarm_fsck.proofs.lines.push_voters.Given as goal

abbrev pub invariant-loop-number : goal.invariant-loop-number
invariant-loop-number l = string_bytes l.text ≡ string_bytes l.fn.text ++ voters_from l.ballot 0 (take l.number l.nodes)
