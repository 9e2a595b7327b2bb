-- Why the loop of `find_outs` keeps its invariant, and what that says at its end.
use Rattle.std.proofs.Common.{arith, max}
use Rattle.std.proofs.lemmas.List.{at_drop_all}
use Rattle.native_lowering_definition.specs.Frames.{outs_of}
use Rattle.native_lowering_frames.proofs.Nexts.{outs_next}
use Rattle.native_lowering_frames.proofs.frame.find_outs.Goals as goal

pub loop-instruction-preserved : goal.loop-instruction-preserved
loop-instruction-preserved c =
    let next = outs_next c.args.code.now c.loop-instruction.instruction-index c.instruction-item.result c.loop-instruction-test.true c.instruction-item.is in
    omega (arith, next, c.larger-outs.ensures, c.outs_at.ensures, c.loop-instruction.invariant)

pub returns : goal.returns
returns c = omega (arith, at_drop_all outs_of c.args.code.now c.loop-instruction.instruction-index c.loop-instruction-test.false, c.loop-instruction.invariant)
