-- The line of the next record is printed, or begun.
use Rattle.std.proofs.Common.{arith}
use Rattle.cfarm_log.proofs.Printed.{begun_next, printed_next}
use Rattle.cfarm_log.proofs.printing.print_records.Goals as goal

pub returns-in-Err-clause-begun : goal.returns-in-Err-clause-begun
returns-in-Err-clause-begun g c =
    begun_next c.args.records.now c.loop-number.number c.index-records-number.result (g.W.Write.contents c.args.out.now) (g.W.Write.contents c.loop-number.out)
    (g.W.Write.contents c.print_record.new.out) (omega arith) c.index-records-number.is c.loop-number.invariant c.in-Err.ensures.begun

pub loop-number-preserved : goal.loop-number-preserved
loop-number-preserved g c =
    printed_next c.args.records.now c.loop-number.number c.index-records-number.result (g.W.Write.contents c.args.out.now) (g.W.Write.contents c.loop-number.out)
    (g.W.Write.contents c.print_record.new.out) (omega arith) c.index-records-number.is c.loop-number.invariant c.in-Ok.ensures.ok
