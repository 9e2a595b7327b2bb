-- The lines of the next function are printed, or begun.
use Rattle.std.proofs.Common.{arith}
use Rattle.lang_base.specs.declared.program.Named.{Named}
use Rattle.rtl_language.specs.declared.function.Function.{Function}
use Rattle.cfarm_fsck.specs.Telling.{four_lines}
use Rattle.cfarm_fsck.proofs.Begun.{begun_next, printed_next}
use Rattle.cfarm_fsck.proofs.printing.print_rooms.Goals as goal

pub returns-in-Err-clause-printed : goal.returns-in-Err-clause-printed
returns-in-Err-clause-printed g c =
    begun_next (λ f (x : Named Function). four_lines c.args.accept c.args.kept.now x.name f) c.args.functions.now c.loop-number.number c.index-functions-number.result (g.W.Write.contents c.args.out.now) (g.W.Write.contents c.loop-number.out)
    (g.W.Write.contents c.print_function.new.out) (omega arith) c.index-functions-number.is c.loop-number.invariant c.in-Err.ensures.printed

pub loop-number-preserved : goal.loop-number-preserved
loop-number-preserved g c =
    printed_next (λ f (x : Named Function). four_lines c.args.accept c.args.kept.now x.name f) c.args.functions.now c.loop-number.number c.index-functions-number.result (g.W.Write.contents c.args.out.now) (g.W.Write.contents c.loop-number.out)
    (g.W.Write.contents c.print_function.new.out) (omega arith) c.index-functions-number.is c.loop-number.invariant c.in-Ok.ensures.printed
