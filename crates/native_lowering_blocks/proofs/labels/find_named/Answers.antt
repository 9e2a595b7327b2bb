-- Why the loop of `find_named` keeps its invariant, and what that says at its end.
use Rattle.std.proofs.Common.{refl}
use Rattle.native_lowering_blocks.specs.Labels.{named_by}
use Rattle.native_lowering_blocks.specs.Noted.{is_named}
use Rattle.native_lowering_blocks.proofs.Noted.{none_noted, next, last}
use Rattle.native_lowering_blocks.proofs.labels.find_named.Goals as goal

pub loop-instruction-init : goal.loop-instruction-init
loop-instruction-init c = none_noted is_named c.args.code.now c.in_ok-flags.flags.items c.in_ok-flags.ensures

pub note-requires : goal.note-requires
note-requires c = c.loop-instruction.invariant.full

pub loop-instruction-preserved : goal.loop-instruction-preserved
loop-instruction-preserved c =
    let noted = rw c.named_by.ensures at c.note.ensures in
    next is_named named_by c.args.code.now c.loop-instruction.instruction-index c.instruction-item.result c.loop-instruction.flags.items c.note.new.flags.items (λ l i rest. refl) c.loop-instruction-test.true c.instruction-item.is c.loop-instruction.invariant noted

pub returns : goal.returns
returns c = last is_named c.args.code.now c.loop-instruction.instruction-index c.loop-instruction.flags.items c.loop-instruction-test.false c.loop-instruction.invariant
