use Rattle.std.proofs.Common.{take}
use Rattle.std.specs.Io.KnownBytes.{Appends}
use Rattle.cfarm_fsck.specs.Telling.{room_lines}
use Rattle.cfarm_fsck.proofs.printing.print_rooms.Given as goal

abbrev pub invariant-loop-number : goal.invariant-loop-number
invariant-loop-number g l = Appends (g.W.Write.contents l.fn.out) (g.W.Write.contents l.out) (room_lines l.accept l.kept (take l.number l.functions))
