-- Why the loop of `add_blocks` keeps its invariant, and what that says at its end.
use Rattle.std.proofs.Common.{sym, subst}
use Rattle.linear_language.specs.Function.{InstructionFits}
use Rattle.native_lowering.proofs.Rests.{more, done, blocks_next, blocks_end, all_at}
use Rattle.native_lowering.proofs.code.add_blocks.Goals as goal

pub add_block-requires : goal.add_block-requires
add_block-requires c =
    subst (InstructionFits c.args.around.now.frame.slots) (sym c.instruction-item.is)
    (all_at (InstructionFits c.args.around.now.frame.slots) c.args.code.now c.loop-instruction.instruction-index c.instruction-item.result c.requires c.loop-instruction-test.true)

pub loop-instruction-preserved : goal.loop-instruction-preserved
loop-instruction-preserved c =
    let next = blocks_next c.args.around.now c.loop-instruction.facts c.args.code.now c.loop-instruction.instruction-index c.instruction-item.result c.loop-instruction-test.true c.instruction-item.is in
    let written = rw c.known_at-known.ensures at c.in_ok-add_block.ensures in
    rw (c.after-facts.ensures, c.known_at-known.ensures)
    (more c.args.out.now.items c.loop-instruction.out.items c.add_block.new.out.items _ _ _ _ c.loop-instruction.invariant next written)

pub returns : goal.returns
returns c =
    done c.args.out.now.items c.loop-instruction.out.items _ _ c.loop-instruction.invariant
    (blocks_end c.args.around.now c.loop-instruction.facts c.args.code.now c.loop-instruction.instruction-index c.loop-instruction-test.false)
