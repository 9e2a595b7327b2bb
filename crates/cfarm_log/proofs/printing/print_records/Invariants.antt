use Rattle.std.proofs.Common.{take}
use Rattle.std.specs.Io.KnownBytes.{Appends}
use Rattle.cfarm_log_lines.specs.Lines.{record_lines}
use Rattle.cfarm_log.proofs.printing.print_records.Given as goal

abbrev pub invariant-loop-number : goal.invariant-loop-number
invariant-loop-number g l = Appends (g.W.Write.contents l.fn.out) (g.W.Write.contents l.out) (record_lines (take l.number l.records))
